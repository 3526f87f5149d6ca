-- The blocks that are remembered under their CIDs.
use Rattle.std.proofs.Common.{◌≡◌, ◌++◌, ◌∷◌, ◌∙◌, ◌↔◌, [], All, Bool, Contains, IsTrue, List, None, Option, Some, false, refl, slice_get, subst, sym, true}
use Rattle.std.proofs.lemmas.List.Elements.{All-cons, All-contains, All-nil}
use Rattle.std.proofs.lemmas.Map.Entries.{place_from_lookup, lookup_head, lookup_tail}
use Rattle.std.proofs.lemmas.Option.{get_or_from_slice_get, slice_get_within}
use Rattle.std.specs.Map.{lookup}
use Rattle.indexmap.proofs.CallerLemmas.{insert_entry-new}
use Rattle.indexmap.specs.IndexMap.{IndexMap, get, insert_entry}
use Rattle.tg_cid.specs.Cid.{CidParts}

module _ {X : Type 0} (eq : CidParts → CidParts → Bool) (laws : (a b : CidParts) → IsTrue (eq a b) ↔ (a ≡ b)) (cid : CidParts) where
  -- what is found stands under the CID
  pub found_under : (entries : List (CidParts × X)) (block : X) → lookup (eq cid) entries ≡ Some block → Contains entries (cid, block)
  found_under entries block e =
      let (i, k, at, same) = place_from_lookup (eq cid) entries block e in
      let here = subst (λ (k : CidParts). slice_get entries i ≡ Some (k, block)) (sym ((laws cid k).0 same)) at in
      (i, slice_get_within entries i (cid, block) here, get_or_from_slice_get entries i (cid, block) (cid, block) here)

  -- and where nothing is found, nothing does
  others : (entries : List (CidParts × X)) → lookup (eq cid) entries ≡ None → All (λ e. eq cid e.0 ≡ false) entries
  others [] none = All-nil (λ (e : CidParts × X). eq cid e.0 ≡ false)
  others (e ∷ entries) none = by (eq cid e.0) refl (others entries)
    where
      by : (t : Bool) → eq cid e.0 ≡ t → (lookup (eq cid) entries ≡ None → All (λ e. eq cid e.0 ≡ false) entries) → All (λ e. eq cid e.0 ≡ false) (e ∷ entries)
      by true is more =
          let found = lookup_head (eq cid) e entries is in
          cc (found, none)
      by false is more = All-cons (λ (e : CidParts × X). eq cid e.0 ≡ false) e entries is (more (sym (lookup_tail (eq cid) e entries is) ∙ none))

  pub none_under : (entries : List (CidParts × X)) → lookup (eq cid) entries ≡ None → (block : X) → Contains entries (cid, block) → ⊥
  none_under entries none block has =
      let no : eq cid cid ≡ false = All-contains (λ (e : CidParts × X). eq cid e.0 ≡ false) entries (cid, block) (others entries none) has in
      let yes : eq cid cid ≡ true = (laws cid cid).1 refl in
      cc (no, yes)

  -- a block is kept where there is none yet
  pub kept_new : {S : Type 0} (old : IndexMap CidParts X S) (new : List (CidParts × X)) (block : X) → ((other : X) → Contains old.entries (cid, other) → ⊥)
      → new ≡ insert_entry eq old.entries cid block → new ≡ old.entries ++ (cid, block) ∷ []
  kept_new old new block free e = by (get eq old cid) refl
    where
      by : (found : Option X) → get eq old cid ≡ found → new ≡ old.entries ++ (cid, block) ∷ []
      by None is = e ∙ insert_entry-new eq old cid block is
      by (Some other) is = absurd (free other (found_under old.entries other is))
