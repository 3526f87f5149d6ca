use Rattle.std.proofs.Common.{◌≡◌, ◌∙◌, ℕ, Option, Some, None, true, false, length, sym, ap, subst, arith, inl, inr}
use Rattle.std.proofs.lemmas.Bool.{cases_lt}
use Rattle.std.proofs.lemmas.Option.{slice_get_read, slice_get_within}
use Rattle.std.specs.List.{slice_get}
use Rattle.std.specs.Option.{is_some}
use Rattle.std.specs.Prelude.{refl}
use Rattle.tg_dials.proofs.dial.first_link.Goals as goal

some_of : {X : Type 0} (x : Option X) → is_some x ≡ true → (y : X) × (x ≡ Some y)
some_of (Some y) e = (y, refl)
some_of None e = absurd (cc e)

none_of : {X : Type 0} (x : Option X) → is_some x ≡ false → x ≡ None
none_of None e = refl
none_of (Some y) e = absurd (cc e)

no_link : {X : Type 0} (y : X) (x : Option (Option X)) → x ≡ Some None → x ≡ Some (Some y) → ⊥
no_link y x none some = cc (none, some)

pub returns-then-is_some-clause-link : goal.returns-then-is_some-clause-link
returns-then-is_some-clause-link g c place link _ =
    let found = some_of c.index-links-place.result (sym c.is_some.ensures ∙ c.if-is_some.true) in
    let read = slice_get_read c.args.links.now (length c.args.links.now) c.loop-place.place c.index-links-place.result refl c.loop-place-test.true c.index-links-place.is in
    (found.0, read ∙ ap Some found.1)

pub loop-place-preserved : goal.loop-place-preserved
loop-place-preserved g c k before =
    let none = none_of c.index-links-place.result (sym c.is_some.ensures ∙ c.if-is_some.false) in
    let read = slice_get_read c.args.links.now (length c.args.links.now) c.loop-place.place c.index-links-place.result refl c.loop-place-test.true c.index-links-place.is in
    elim (cases_lt k c.loop-place.place) [
      | inl less ↦ c.loop-place.invariant k less
      | inr most ↦
          let here : k ≡ c.loop-place.place = omega arith in
          subst (λ (n : ℕ). slice_get c.args.links.now n ≡ Some None) (sym here) (read ∙ ap Some none)
    ]

pub returns-clause-link : goal.returns-clause-link
returns-clause-link g c place link stands =
    let within = slice_get_within c.args.links.now place (Some link) stands in
    absurd (no_link link (slice_get c.args.links.now place) (c.loop-place.invariant place (omega arith)) stands)
