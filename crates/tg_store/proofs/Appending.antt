-- What is written to a pack, one thing after another.
use Rattle.std.proofs.Common.{◌≡◌, ◌≤◌, ℕ, List, [], ◌∷◌, ◌++◌, Option, Some, None, refl, ap, subst, ◌∙◌}
use Rattle.std.proofs.lemmas.List.{append_assoc}
use Rattle.std.proofs.lemmas.List.Elements.{All-cons, All-nil}
use Rattle.tg_bytes.specs.Told.{grown}
use Rattle.tg_faults.specs.Faults.{Rose}
use Rattle.tg_files.specs.Packs.{Did, PackMeaning, PackQuiet, PackRose, PackWrite, Untold, did_joins, pack_step, written}
use Rattle.tg_files.specs.Packs.PackWrite.{append, torn}
use Rattle.tg_store.specs.Packs.{IsGrowth}
use Rattle.tg_store.specs.PackWrites.{Appended, Torn}

grown_twice : (content : Option (List ℕ)) (first second : List ℕ) → written content (append first ∷ append second ∷ []) ≡ grown content (first ++ second)
grown_twice None first second = refl
grown_twice (Some held) first second = ap Some (append_assoc held first second)

-- a count that rose after one that stood still
pub rose_after : {S : Type 0} (m : PackMeaning S) (a b c : S) → PackQuiet (pack_step m a b) → PackRose (pack_step m b c) → PackRose (pack_step m a c)
rose_after m a b c quiet rose = record {
  rose = subst (λ (n : ℕ). Rose n (m.faults c)) quiet rose.rose;
  counted = subst (λ (n : ℕ). n ≤ m.faults c) quiet rose.counted;
}

module _ {S : Type 0} (m : PackMeaning S) (joins : (a b c : S) (u v : List PackWrite) → m.did a b u → m.did b c v → m.did a c (u ++ v)) (a b c : S) (first second : List ℕ) where
  pub appended_both : Did (append first ∷ []) (pack_step m a b) → Did (append second ∷ []) (pack_step m b c) → Appended (first ++ second) (pack_step m a c)
  appended_both p q =
      let both = did_joins m joins a b c (append first ∷ []) (append second ∷ []) p q in
      record {
        writes = append first ∷ append second ∷ [];
        did = both;
        growth = All-cons IsGrowth (append first) (append second ∷ []) tt (All-cons IsGrowth (append second) [] tt (All-nil IsGrowth));
        told = both.content ∙ grown_twice (m.content a) first second;
      }

  pub torn_behind : Did (append first ∷ []) (pack_step m a b) → Untold (pack_step m b c) → Torn (pack_step m a c)
  torn_behind p q =
      let both = did_joins m joins a b c (append first ∷ []) (torn ∷ []) p q in
      record {
        writes = append first ∷ torn ∷ [];
        did = both;
        growth = All-cons IsGrowth (append first) (torn ∷ []) tt (All-cons IsGrowth torn [] tt (All-nil IsGrowth));
        untold = both.content;
      }

pub torn_once : {S : Type 0} (m : PackMeaning S) (a b : S) → Untold (pack_step m a b) → Torn (pack_step m a b)
torn_once m a b q = record { writes = torn ∷ []; did = q; growth = All-cons IsGrowth torn [] tt (All-nil IsGrowth); untold = q.content }

pub appended_once : {S : Type 0} (m : PackMeaning S) (a b : S) (text : List ℕ) → Did (append text ∷ []) (pack_step m a b) → Appended text (pack_step m a b)
appended_once m a b text did = record {
  writes = append text ∷ [];
  did = did;
  growth = All-cons IsGrowth (append text) [] tt (All-nil IsGrowth);
  told = did.content;
}
