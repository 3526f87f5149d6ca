-- What holds of stores in packs: what is told is a store, and steps follow one another.
use Rattle.std.specs.Prelude.{◌≡◌, ◌+◌, ℕ, List, [], ◌∷◌, ◌++◌, length, Option, Some, None, refl}
use Rattle.std.specs.Map.{keys_of}
use Rattle.std.proofs.Common.{ap, sym, subst, ◌∙◌, arith}
use Rattle.std.proofs.lemmas.List.{append-nil, append_assoc, length-append, map-append}
use Rattle.std.proofs.lemmas.List.Elements.{All-append, All-nil}
use Rattle.tg_files.specs.Packs.{Did, PackMeaning, PackWrite, did_joins, pack_step}
use Rattle.tg_model.specs.Dag.{Section}
use Rattle.tg_model.specs.Stores.{IsToldStore}
use Rattle.tg_store.specs.declared.key.Key.{Key}
use Rattle.tg_store.specs.declared.place.Place.{Place}
use Rattle.tg_store.specs.Entries.{new_beside, section_keys}
use Rattle.tg_store.specs.EntryLaws.{is_store, new_beside-append}
use Rattle.tg_store.specs.Packs.{PackStoreState, ArePlacedAt, GrewBy, HasGrown, HasKept, HasSearched, IsGrowth}
use Rattle.tg_store.specs.Packs.{block_at, entry_before, stored_in}

pub told_store : (told : Option (List ℕ)) (places : List (Key × Place)) → IsToldStore (stored_in told places)
told_store None places = tt
told_store (Some content) places = is_store (block_at content) places

-- ---- sections one after another

pub placed_joins : (at : ℕ) (u v : List Section) (a b : List ℕ) (p q : List (Key × Place)) → ArePlacedAt at u a p
    → ArePlacedAt (at + length a) v b q
    → ArePlacedAt at (u ++ v) (a ++ b) (p ++ q)
placed_joins at [] v a b p q h k =
    let none : length a ≡ 0 = ap length h.0 in
    let here : at + length a ≡ at = omega arith in
    let same : ArePlacedAt at v b q = subst (λ (n : ℕ). ArePlacedAt n v b q) here k in
    subst (λ (l : List ℕ). ArePlacedAt at v l (p ++ q)) (ap (λ (l : List ℕ). l ++ b) (sym h.0))
    (subst (λ (l : List (Key × Place)). ArePlacedAt at v b l) (ap (λ (l : List (Key × Place)). l ++ q) (sym h.1)) same)
placed_joins at (section ∷ u) v a b p q h k =
    let size : length a ≡ length h.0 + length h.1 = ap length h.3 ∙ length-append h.0 h.1 in
    let behind : at + length a ≡ (at + length h.0) + length h.1 = omega arith in
    let rest = placed_joins (at + length h.0) u v h.1 b h.2 q h.6 (subst (λ (n : ℕ). ArePlacedAt n v b q) behind k) in (
      h.0,
      h.1 ++ b,
      h.2 ++ q,
      ap (λ (l : List ℕ). l ++ b) h.3 ∙ append_assoc h.0 h.1 b,
      h.4,
      ap (λ (l : List (Key × Place)). l ++ q) h.5,
      rest,
    )

-- the keys of the entries are those of the sections
pub placed_keys : (at : ℕ) (sections : List Section) (bytes : List ℕ) (places : List (Key × Place))
    → ArePlacedAt at sections bytes places → keys_of places ≡ section_keys sections
placed_keys at [] bytes places h = ap keys_of h.1
placed_keys at (section ∷ sections) bytes places h =
    ap keys_of h.5 ∙ ap (λ (ks : List Key). (entry_before (at + length h.0) section).0 ∷ ks) (placed_keys (at + length h.0) sections h.1 h.2 h.6)

pub grown_joins : (a b c : List ℕ) (p q r : List (Key × Place)) (u v : List Section)
    → HasGrown a b p q (new_beside (keys_of p) u)
    → HasGrown b c q r (new_beside (keys_of q) v) → HasGrown a c p r (new_beside (keys_of p) (u ++ v))
grown_joins a b c p q r u v h k =
    let front : List Section = new_beside (keys_of p) u in
    let keys : keys_of q ≡ keys_of p ++ section_keys front =
    ap keys_of h.entries ∙ map-append (λ (e : Key × Place). e.0) p h.places ∙ ap (λ (ks : List Key). keys_of p ++ ks) (placed_keys (length a) front h.texts h.places h.placed) in
    let behind : length b ≡ length a + length h.texts = ap length h.content ∙ length-append a h.texts in
    let rest : ArePlacedAt (length a + length h.texts) (new_beside (keys_of p ++ section_keys front) v) k.texts k.places =
    subst (λ (n : ℕ). ArePlacedAt n (new_beside (keys_of p ++ section_keys front) v) k.texts k.places) behind
    (subst (λ (ks : List Key). ArePlacedAt (length b) (new_beside ks v) k.texts k.places) keys k.placed) in
    record {
      texts = h.texts ++ k.texts;
      places = h.places ++ k.places;
      content = k.content ∙ ap (λ (l : List ℕ). l ++ k.texts) h.content ∙ append_assoc a h.texts k.texts;
      entries = k.entries ∙ ap (λ (l : List (Key × Place)). l ++ k.places) h.entries ∙ append_assoc p h.places k.places;
      placed = subst (λ (s : List Section). ArePlacedAt (length a) s (h.texts ++ k.texts) (h.places ++ k.places)) (sym (new_beside-append (keys_of p) u v))
          (placed_joins (length a) front (new_beside (keys_of p ++ section_keys front) v) h.texts k.texts h.places k.places h.placed rest);
    }

pub grew_joins : (a b c : Option (List ℕ)) (p q r : List (Key × Place)) (u v : List Section) → GrewBy a b p q u
    → GrewBy b c q r v → GrewBy a c p r (u ++ v)
grew_joins a b None p q r u v h k = tt
grew_joins a None (Some new) p q r u v h k = absurd k
grew_joins None (Some between) (Some new) p q r u v h k = absurd h
grew_joins (Some old) (Some between) (Some new) p q r u v h k = grown_joins old between new p q r u v h k

-- nothing grew
pub grew_nothing : (a b : Option (List ℕ)) (p q : List (Key × Place)) → b ≡ a → q ≡ p → GrewBy a b p q []
grew_nothing a None p q e f = tt
grew_nothing None (Some new) p q e f = cc
grew_nothing (Some old) (Some new) p q e f =
    let same : new ≡ old = cc in
    record { texts = []; places = []; content = same ∙ sym (append-nil old); entries = f ∙ sym (append-nil p); placed = (refl, refl) }

-- ---- steps

module _ {P : Type 0} (m : PackMeaning P) (rests : (p : P) → m.did p p []) (joins : (a b c : P) (u v : List PackWrite) → m.did a b u → m.did b c v → m.did a c (u ++ v)) where
  pub did_nothing : (p : P) → Did [] (pack_step m p p)
  did_nothing p = record { moved = rests p; content = refl; place = refl }

  pub searched_rests : (s : PackStoreState P) → HasSearched m s s
  searched_rests s = record { did = did_nothing s.pack; fresh = refl; places = refl; end = refl }

  pub searched_joins : (a b c : PackStoreState P) → HasSearched m a b → HasSearched m b c → HasSearched m a c
  searched_joins a b c h k = record {
    did = did_joins m joins a.pack b.pack c.pack [] [] h.did k.did;
    fresh = k.fresh ∙ h.fresh;
    places = k.places ∙ h.places;
    end = k.end ∙ h.end;
  }

  pub kept_rests : (s : PackStoreState P) → HasKept m s s []
  kept_rests s = record { writes = []; did = did_nothing s.pack; growth = All-nil IsGrowth; fresh = refl; grew = grew_nothing _ _ s.places s.places refl refl }

  pub kept_joins : (a b c : PackStoreState P) (u v : List Section) → HasKept m a b u → HasKept m b c v
      → HasKept m a c (u ++ v)
  kept_joins a b c u v h k = record {
    writes = h.writes ++ k.writes;
    did = did_joins m joins a.pack b.pack c.pack h.writes k.writes h.did k.did;
    growth = All-append IsGrowth h.writes k.writes h.growth k.growth;
    fresh = k.fresh ∙ h.fresh;
    grew = grew_joins (m.content a.pack) (m.content b.pack) (m.content c.pack) a.places b.places c.places u v h.grew k.grew;
  }
