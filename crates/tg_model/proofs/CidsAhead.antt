-- Links that are ahead, with their CIDs: one link more.
use Rattle.std.proofs.Common.{◌≡◌, ℕ, ◌+◌, Some, None, Ok, Err, Option, Result, List, [], ◌∷◌, ◌++◌, refl, sym, ap, ◌∙◌, subst, append_assoc, append-nil}
use Rattle.tg_cid.specs.Cid.{CidParts}
use Rattle.tg_cid.specs.Computed.{cid_of}
use Rattle.tg_cid.specs.Spelling.{CidBytes}
use Rattle.tg_dagpb.specs.declared.Link.{Link}
use Rattle.tg_model.specs.Computed.{◌>>=◌, cid_or_fault, cids_from}
use Rattle.tg_model.specs.PlacedSteps.{cids_in}
use Rattle.tg_model.specs.Reading.{AreCids}
use Rattle.tg_model.specs.declared.fault.BlockFault.{BlockFault}
use Rattle.tg_model.specs.declared.fault.BlockFault.TheVariants as faults

-- no links have no CIDs
pub no_cids : (links : List Link) (cids : List CidParts) → AreCids links cids → links ≡ [] → cids ≡ []
no_cids [] [] h e = refl
no_cids [] (cid ∷ cids) h e = absurd h
no_cids (link ∷ links) cids h e = absurd (cc)

-- the hash of the first link is the first CID
pub record HasFirstCid (link : Link) (links : List Link) (cids : List CidParts) : Type 0 where
  pub cid : CidParts
  pub more : List CidParts
  pub cids_are : cids ≡ cid ∷ more
  pub first : CidBytes cid link.hash
  pub others : AreCids links more

first_of : (link : Link) (links : List Link) (cids : List CidParts) → AreCids (link ∷ links) cids → HasFirstCid link links cids
first_of link links [] h = absurd h
first_of link links (cid ∷ cids) h = record { cid = cid; more = cids; cids_are = refl; first = h.0; others = h.1 }

pub first_cid : (all : List Link) (link : Link) (links : List Link) (cids : List CidParts) → all ≡ link ∷ links → AreCids all cids → HasFirstCid link links cids
first_cid all link links cids e h = first_of link links cids (subst (λ (ls : List Link). AreCids ls cids) e h)

-- ---- the CIDs that are found, one link after another

-- a hash that is no CID is the fault
pub cids_bad : (at : ℕ) (front : List CidParts) (all links : List Link) (link : Link) → all ≡ link ∷ links → cid_of link.hash ≡ None
    → (cids_from at all >>= λ cids. Ok (front ++ cids)) ≡ Err (faults.BadLink at)
cids_bad at front all links link e none =
    ap (λ (ls : List Link). cids_from at ls >>= λ cids. Ok (front ++ cids)) e
    ∙ ap (λ (c : Option CidParts). (cid_or_fault at c >>= λ cid. cids_from (at + 1) links >>= λ cids. Ok (cid ∷ cids)) >>= λ cids. Ok (front ++ cids)) none

-- one CID joins those before
cid_joins : (front : List CidParts) (cid : CidParts) (rest : Result (List CidParts) BlockFault)
    → ((rest >>= λ cids. Ok (cid ∷ cids)) >>= λ cids. Ok (front ++ cids)) ≡ (rest >>= λ cids. Ok ((front ++ cid ∷ []) ++ cids))
cid_joins front cid (Ok cids) = ap (λ (l : List CidParts). Ok l) (sym (append_assoc front (cid ∷ []) cids))
cid_joins front cid (Err fault) = refl

pub cids_more : (at : ℕ) (front : List CidParts) (all links : List Link) (link : Link) (cid : CidParts) → all ≡ link ∷ links → cid_of link.hash ≡ Some cid
    → (cids_from at all >>= λ cids. Ok (front ++ cids)) ≡ (cids_from (at + 1) links >>= λ cids. Ok ((front ++ cid ∷ []) ++ cids))
cids_more at front all links link cid e found =
    ap (λ (ls : List Link). cids_from at ls >>= λ cids. Ok (front ++ cids)) e
    ∙ ap (λ (c : Option CidParts). (cid_or_fault at c >>= λ cid. cids_from (at + 1) links >>= λ cids. Ok (cid ∷ cids)) >>= λ cids. Ok (front ++ cids)) found
    ∙ cid_joins front cid (cids_from (at + 1) links)

-- where no link is left, these are all
pub cids_all : (at : ℕ) (front : List CidParts) (all : List Link) (whole : Result (List CidParts) BlockFault) → all ≡ []
    → whole ≡ (cids_from at all >>= λ cids. Ok (front ++ cids)) → (whole ≡ Ok (cids_in whole)) × (cids_in whole ≡ front)
cids_all at front all whole none e =
    let told : whole ≡ Ok front = e ∙ ap (λ (ls : List Link). cids_from at ls >>= λ cids. Ok (front ++ cids)) none ∙ ap (λ (l : List CidParts). Ok l) (append-nil front) in
    let same : cids_in whole ≡ front = ap cids_in told in
    (told ∙ ap (λ (l : List CidParts). Ok l) (sym same), same)
