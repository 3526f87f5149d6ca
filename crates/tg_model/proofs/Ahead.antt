-- What is left of a block's links and of blocksizes at a cursor.
use Rattle.std.proofs.Common.{ℕ, List}
use Rattle.tg_cid.specs.Cid.{CidParts}
use Rattle.tg_dagpb.specs.declared.Link.{Link}
use Rattle.tg_model.specs.Placed.{AreCidsAhead, AreLinksAhead, AreSizesAhead}

-- of the links that are ahead this holds
pub record LinksLeft (block : List ℕ) (at : ℕ) (holds : List Link → Type 0) : Type 0 where
  pub links : List Link
  pub ahead : AreLinksAhead block at links
  pub so_far : holds links

-- of the links with their CIDs
pub record CidsLeft (block : List ℕ) (at : ℕ) (holds : List Link → List CidParts → Type 0) : Type 0 where
  pub links : List Link
  pub cids : List CidParts
  pub ahead : AreCidsAhead block at links cids
  pub so_far : holds links cids

-- and of the blocksizes
pub record SizesLeft (text : List ℕ) (at : ℕ) (holds : List ℕ → Type 0) : Type 0 where
  pub sizes : List ℕ
  pub ahead : AreSizesAhead text at sizes
  pub so_far : holds sizes
