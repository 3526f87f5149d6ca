-- What a log of sections tells is a store, to which each further section is added.
use Rattle.std.specs.Prelude.{◌≡◌, ◌≢◌, ◌≤◌, ◌++◌, ◌∷◌, ℕ, Bool, true, false, cond, List, [], length, map, unwrap_or}
use Rattle.std.specs.Prelude.{Some, None, Option, refl, ⊤}
use Rattle.tg_cid.specs.Limits.{max_block_len}
use Rattle.std.proofs.Common.{ap, sym, subst, ◌∙◌}
use Rattle.std.proofs.lemmas.List.{append-nil, append_assoc, map-append}
use Rattle.tg_cid.specs.Cid.{CidParts}
use Rattle.tg_cid.specs.Names.{Names}
use Rattle.tg_model.specs.Dag.{Section}
use Rattle.tg_model.specs.Stores.{Adds, IsNamedBlock, IsStore, Store, as_v1}
use Rattle.tg_model.specs.SameForm.{is_same_v1, named_too, same_v1, same_v1_alike, same_v1_is}
use Rattle.tg_block_log.specs.BlockLog.{Logged, Searched, first_block, section_v1}

-- ---- what is told is a store

-- a section whose CID names its block, which is no larger than a block may be
pub record IsGoodSection (section : Section) : Type 0 where
  pub named : Names section.cid section.block
  pub small : length section.block ≤ max_block_len

-- a block that is found is that of a section, or found behind it
first_found : (P : List ℕ → Type 0) (section : Section) (test : Bool) (rest : Option (List ℕ)) (block : List ℕ)
    → (test ≡ true → P section.block) → (rest ≡ Some block → P block)
    → cond test (Some section.block) rest ≡ Some block → P block
first_found P section true rest block here later e = let same : section.block ≡ block = cc in subst P same (here refl)
first_found P section false rest block here later e = later e

module _ {H : Type 0} (section_of : H → Section) (good : (held : H) → IsGoodSection (section_of held)) where
  -- a CID and its version 1 form find the same
  twins : (held : List H) (cid : CidParts)
      → first_block (map section_of held) cid ≡ first_block (map section_of held) (as_v1 cid)
  twins [] cid = refl
  twins (h ∷ held) cid =
      ap (λ (o : Option (List ℕ)). cond (same_v1 cid (section_of h).cid) (Some (section_of h).block) o) (twins held cid)

  -- a found block is named by the CID
  named : (held : List H) (cid : CidParts) (block : List ℕ) → first_block (map section_of held) cid ≡ Some block
      → Names cid block
  named [] cid block e = absurd (cc)
  named (h ∷ held) cid block e =
      first_found (λ block. Names cid block) (section_of h) (same_v1 cid (section_of h).cid) (first_block (map section_of held) cid) block
      (λ same. named_too cid (section_of h).cid (section_of h).block (same_v1_is cid (section_of h).cid same) (good h).named) (named held cid block) e

  -- and no larger than a block may be
  small : (held : List H) (cid : CidParts) (block : List ℕ) → first_block (map section_of held) cid ≡ Some block
      → length block ≤ max_block_len
  small [] cid block e = absurd (cc)
  small (h ∷ held) cid block e =
      first_found (λ block. length block ≤ max_block_len) (section_of h) (same_v1 cid (section_of h).cid) (first_block (map section_of held) cid) block
      (λ same. (good h).small) (small held cid block) e

  -- so the log tells a store
  pub log_is_store : (held : List H) → IsStore (first_block (map section_of held))
  log_is_store held = record { twins = twins held; named = named held; small = small held }

-- ---- a further section

-- what is found among sections and behind them
pub found_behind : (test : Bool) (block more : List ℕ) (rest : Option (List ℕ))
    → cond test (Some block) (Some (unwrap_or rest more)) ≡ Some (unwrap_or (cond test (Some block) rest) more)
found_behind true block more rest = refl
found_behind false block more rest = refl

-- under a CID of its form a section is found where none stands before it
added_here : (sections : List Section) (cid other : CidParts) (block : List ℕ) → as_v1 other ≡ as_v1 cid
    → first_block (sections ++ section_v1 (record { cid = cid; block = block }) ∷ []) other ≡ Some (unwrap_or (first_block sections cid) block)
added_here [] cid other block e = ap (λ (test : Bool). cond test (Some block) None) (is_same_v1 other (as_v1 cid) e)
added_here (section ∷ sections) cid other block e =
    ap (λ (o : Option (List ℕ)). cond (same_v1 other section.cid) (Some section.block) o) (added_here sections cid other block e)
    ∙ ap (λ (test : Bool). cond test (Some section.block) (Some (unwrap_or (first_block sections cid) block))) (same_v1_alike other cid section.cid e)
    ∙ found_behind (same_v1 cid section.cid) section.block block (first_block sections cid)

-- a test that isn't passed
not_passed : (test : Bool) (block : List ℕ) → (test ≡ true → ⊥) → cond test (Some block) None ≡ None
not_passed true block h = absurd (h refl)
not_passed false block h = refl

-- under another CID it changes nothing
added_elsewhere : (sections : List Section) (cid other : CidParts) (block : List ℕ) → as_v1 other ≢ as_v1 cid
    → first_block (sections ++ section_v1 (record { cid = cid; block = block }) ∷ []) other ≡ first_block sections other
added_elsewhere [] cid other block ne =
    not_passed (same_v1 other (as_v1 cid)) block (λ same. ne (same_v1_is other (as_v1 cid) same))
added_elsewhere (section ∷ sections) cid other block ne =
    ap (λ (o : Option (List ℕ)). cond (same_v1 other section.cid) (Some section.block) o) (added_elsewhere sections cid other block ne)

-- so it is added to the store
pub log_adds : (sections : List Section) (cid : CidParts) (block : List ℕ)
    → Adds (first_block sections) (first_block (sections ++ section_v1 (record { cid = cid; block = block }) ∷ [])) cid block
log_adds sections cid block = record { here = λ other. added_here sections cid other block; others = λ other. added_elsewhere sections cid other block }

-- ---- steps

-- nothing is logged
pub logged_rests : (number : ℕ) (sections : List Section) → Logged number number sections sections []
logged_rests number sections = record { number = refl; more = sym (append-nil sections) }

-- what is searched logs nothing
pub searched_logs : (m n : ℕ) (old new : List Section) → Searched m n old new → Logged m n old new []
searched_logs m n old new h = record { number = h.number; more = h.same ∙ sym (append-nil old) }

-- one step after another
pub logged_joins : (k m n : ℕ) (a b c u v : List Section) → Logged k m a b u → Logged m n b c v
    → Logged k n a c (u ++ v)
logged_joins k m n a b c u v h g = record {
  number = g.number ∙ h.number;
  more = g.more ∙ ap (λ (sections : List Section). sections ++ map section_v1 v) h.more ∙ append_assoc a (map section_v1 u) (map section_v1 v)
      ∙ ap (λ (sections : List Section). a ++ sections) (sym (map-append section_v1 u v));
}

pub searched_joins : (k m n : ℕ) (a b c : List Section) → Searched k m a b → Searched m n b c → Searched k n a c
searched_joins k m n a b c h g = record { number = g.number ∙ h.number; same = g.same ∙ h.same }

-- a found block is named by the CID and no larger than a block may be
pub found_named : (store : Store) (cid : CidParts) (found : Option (List ℕ)) → IsStore store → found ≡ store cid
    → IsNamedBlock cid found
found_named store cid None is e = tt
found_named store cid (Some block) is e = (is.named cid block (sym e), is.small cid block (sym e))
