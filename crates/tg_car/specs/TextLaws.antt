-- What the laws of CARs rest on.
use Rattle.tg_varint.specs.Laws.{SpellingLaws}
use Rattle.tg_cid.specs.Laws.{OneSpelling, LengthLaws}

-- the laws of the varints and of the CIDs of which a CAR's text is made
pub record TextLaws : Type 0 where
  pub varints : SpellingLaws
  pub cids : OneSpelling
  pub lengths : LengthLaws
