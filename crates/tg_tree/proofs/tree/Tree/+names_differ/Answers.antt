use Rattle.std.proofs.Common.{◌≡◌, ◌<◌, IsTrue, length, take, ap, ◌∙◌, subst, true, false, refl, All, List, get_or, arith, is_some, ℕ}
use Rattle.std.proofs.lemmas.List.{take_all}
use Rattle.std.proofs.lemmas.Option.{slice_get_read}
use Rattle.std.specs.List.{IsDistinct}
use Rattle.std.specs.Map.{lookup, keys_of}
use Rattle.std.specs.Str.{bytes_eq}
use Rattle.tg_tree.specs.declared.tree.Tree.{Tree}
use Rattle.tg_tree.specs.Tree.{NamesDiffer, entries_of}
use Rattle.tg_tree.proofs.Trees.{below_more_entries, differ_below, differ_from_entries, distinct_more, found_again, is_some-copied}
use Rattle.tg_tree.proofs.tree.Tree.+names_differ.Goals as goal
use Rattle.tg_tree.proofs.tree.Tree.+names_differ.Goals.{then-is_some-via-then-is_some, then-is_some-via-else-is_some+then-not-names_differ}

pub loop-i-init : goal.loop-i-init
unfolding IsDistinct
loop-i-init t c = record { here = tt; below = λ k d h. absurd (omega (arith, h)) }

-- a name that stands before an entry, or below it twice
pub returns-then-is_some : goal.returns-then-is_some
returns-then-is_some t c =
    let e = c.index-entries-i.result in
    let es : c.entries-entries.result.now ≡ entries_of c.args.self.now = c.entries-entries.ensures in
    let inside : c.loop-i.i < length (entries_of c.args.self.now) = subst (λ (xs : List (List ℕ × Tree)). c.loop-i.i < length xs) es c.loop-i-test.true in
    let at : e ≡ get_or (entries_of c.args.self.now) c.loop-i.i e = c.index-entries-i.is ∙ ap (λ (xs : List (List ℕ × Tree)). get_or xs c.loop-i.i e) es in (
      λ h. absurd (cc),
      λ differ.
          elim c.then-is_some.branch [
            | then-is_some-via-then-is_some w ↦
                let some : is_some (lookup (bytes_eq e.0) (take c.loop-i.i (entries_of c.args.self.now))) ≡ true = let copied = is_some-copied c.find.result in let same = w.if-is_some.true in cc in
                absurd (found_again c.args.self.now c.loop-i.i e inside at some differ)
            | then-is_some-via-else-is_some+then-not-names_differ w ↦
                let below : NamesDiffer e.1 = differ_below c.args.self.now c.loop-i.i e differ (slice_get_read _ _ c.loop-i.i e refl inside at) in
                subst IsTrue w.if-not-names_differ.true (w.names_differ.ensures.1 below)
          ],
    )

pub loop-i-preserved : goal.loop-i-preserved
loop-i-preserved t c =
    let e = c.index-entries-i.result in
    let none : is_some (lookup (bytes_eq e.0) (take c.loop-i.i c.entries-entries.result.now)) ≡ false = let copied = is_some-copied c.find.result in cc in
    record {
      here = distinct_more _ c.loop-i.i e c.loop-i-test.true c.index-entries-i.is c.loop-i.invariant.here none;
      below = below_more_entries _ c.loop-i.i e c.loop-i-test.true c.index-entries-i.is c.loop-i.invariant.below (c.names_differ.ensures.0 c.if-not-names_differ.false);
    }

pub returns : goal.returns
returns t c =
    let whole : take c.loop-i.i c.entries-entries.result.now ≡ entries_of c.args.self.now = take_all _ _ c.loop-i-test.false ∙ c.entries-entries.ensures in
    let here : IsDistinct bytes_eq (keys_of (entries_of c.args.self.now)) = rw whole at c.loop-i.invariant.here in
    let below : All (λ (e : List ℕ × Tree). NamesDiffer e.1) (entries_of c.args.self.now) = subst (All (λ (e : List ℕ × Tree). NamesDiffer e.1)) whole c.loop-i.invariant.below in
    (λ _. differ_from_entries c.args.self.now here below, λ _. refl)
