use Rattle.std.proofs.Common.{◌≡◌, ℕ, List, [], ◌∷◌, ◌++◌, Option, Some, Bool, true, false, refl, sym, ◌∙◌, subst, inl, inr}
use Rattle.std.specs.Prelude.{MatchBool, Contains, nat_lt, not, ◌==◌}
use Rattle.std.specs.Option.{option_eq}
use Rattle.std.specs.List.Sorted.{IsNonDecreasing}
use Rattle.std.proofs.lemmas.Bool.{cases_lt, false≢true, le-ltb}
use Rattle.std.proofs.lemmas.Bool.Decides.{Decides-ltb}
use Rattle.tg_pbtable.specs.declared.table.Order.{Order}
use Rattle.tg_pbtable.specs.declared.table.Order.TheVariants.{Ascending, Runs}
use Rattle.tg_pbtable.specs.Message.{IsInOrder, StandTogether}
use Rattle.tg_pbtable.specs.Faults.{BreaksOrder}
use Rattle.tg_pbtable.specs.Cursor.{EndsIn, IsLast}
use Rattle.tg_pbtable.proofs.Numbers.{falls, rises_after, rises_alone, new_run, same_run, same_last}
use Rattle.tg_pbtable.proofs.cursor.is_out_of_order.Goals as goal

abbrev Answer : Order → List ℕ → ℕ → Bool → Type 0
Answer order ns n b = MatchBool b (BreaksOrder order ns n) (IsInOrder order (ns ++ n ∷ []))

after_last : (ns : List ℕ) (last n : ℕ) → EndsIn ns last → IsNonDecreasing ns → Answer Ascending ns n (nat_lt n last)
after_last ns last n ends inorder = elim (cases_lt n last) [
  | inl lt ↦ subst (λ (b : Bool). Answer Ascending ns n b) (sym ((Decides-ltb n last).1 lt)) (falls ns last n ends lt)
  | inr le ↦ subst (λ (b : Bool). Answer Ascending ns n b) (sym (le-ltb n last le)) (rises_after ns last n inorder ends le)
]

pub returns-in-Some : goal.returns-in-Some
returns-in-Some c = λ ns last_is means inorder.
    subst (λ (o : Order). Answer o ns c.args.number (nat_lt c.args.number c.in-Some.last)) (sym c.in-Ascending.is)
    (after_last ns c.in-Some.last c.args.number (subst (λ (l : Option ℕ). IsLast ns l) c.in-Some.is last_is) (subst (λ (o : Order). IsInOrder o ns) c.in-Ascending.is inorder))

pub returns-in-None : goal.returns-in-None
returns-in-None c = λ ns last_is means inorder.
    subst (λ (o : Order). IsInOrder o (ns ++ c.args.number ∷ [])) (sym c.in-Ascending.is)
    (rises_alone ns c.args.number (subst (λ (o : Order). IsInOrder o ns) c.in-Ascending.is inorder) (subst (λ (l : Option ℕ). IsLast ns l) c.in-None.is last_is))

seen_run : (ns : List ℕ) (n : ℕ) (b : Bool) → Contains ns n → StandTogether ns → (b ≡ true → EndsIn ns n) × (EndsIn ns n → b ≡ true) → Answer Runs ns n (not b)
seen_run ns n true has h ends = same_run ns n h (ends.0 refl)
seen_run ns n false has h ends = (has, λ front e. false≢true (ends.1 (front, e)))

pub returns-then-seen : goal.returns-then-seen
returns-then-seen c = λ ns last_is means inorder.
    subst (λ (o : Order). Answer o ns c.args.number c.ne.result) (sym c.in-Runs.is)
    (subst (λ (b : Bool). Answer Runs ns c.args.number b) (sym c.ne.ensures)
    (seen_run ns c.args.number (option_eq ◌==◌ c.args.last (Some c.args.number)) (means.0 c.if-seen.true) (subst (λ (o : Order). IsInOrder o ns) c.in-Runs.is inorder) (same_last ns c.args.last c.args.number last_is)))

pub returns-else-seen : goal.returns-else-seen
returns-else-seen c = λ ns last_is means inorder.
    subst (λ (b : Bool). Answer c.args.order ns c.args.number b) (sym c.if-seen.false)
    (subst (λ (o : Order). Answer o ns c.args.number false) (sym c.in-Runs.is) (new_run ns c.args.number (subst (λ (o : Order). IsInOrder o ns) c.in-Runs.is inorder) (λ h. false≢true (sym c.if-seen.false ∙ means.1 h))))
