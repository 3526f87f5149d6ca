-- A door between two moments, and a link that is given back to it.
use Rattle.std.proofs.Common.{Bool, List, None, Option, Some, ap, arith, false, inl, inr, is_some, refl, sym, true, ◌∙◌, ◌≡◌, ◌≤◌, ◌⊎◌}
use Rattle.std.specs.Prelude.{IsSome}
use Rattle.tg_doors.specs.Doors.{DoorMeaning, DoorQuiet, DoorRose, IsDone, at_door}
use Rattle.tg_links.specs.Views.{LinkView, and_call, is_failed, told_call}
use Rattle.tg_links.specs.declared.call.Call.{Call}
use Rattle.tg_serve.specs.Serving.{QuietWhileTold}

module _ {D : Type 0} (d : DoorMeaning D) (a b c : D) (before : d.faults a ≤ d.faults b) (behind : d.faults b ≤ d.faults c) where
  -- what rose before, or behind, rose
  pub rose_before : DoorRose (at_door d a b) → DoorRose (at_door d a c)
  rose_before up room = let rose = up (omega (arith, behind, room)) in omega (arith, behind, rose)

  pub rose_behind : DoorRose (at_door d b c) → DoorRose (at_door d a c)
  rose_behind up room = let rose = up room in omega (arith, before, rose)

  -- and what is quiet before and behind is quiet
  pub quiet_both : (d.served a ≡ None → d.served b ≡ None) → (d.served b ≡ None → d.served c ≡ None) → QuietWhileTold (at_door d a b)
      → QuietWhileTold (at_door d b c) → QuietWhileTold (at_door d a c)
  quiet_both untold stays (inl quiet) (inl now) = inl (now ∙ quiet)
  quiet_both untold stays (inr (some, none, up)) now = inr (some, stays none, rose_before up)
  quiet_both untold stays (inl quiet) (inr (some, none, up)) = inr (told_before (d.served a) refl, none, rose_behind up)
    where
      told_before : (was : Option (List Call)) → d.served a ≡ was → IsSome (d.served a)
      told_before (Some calls) is = ap is_some is
      told_before None is = absurd (let f = sym (ap is_some (untold is)) ∙ some in cc)

-- ---- a link is given back

module _ {D : Type 0} (d : DoorMeaning D) (b c : D) (link : LinkView) (done : IsDone link (at_door d b c)) where
  -- what isn't told stays so
  pub done_untold : d.served b ≡ None → d.served c ≡ None
  done_untold none = by done.served
    where
      by : (d.served c ≡ and_call (d.served b) (told_call link)) ⊎ ((d.served c ≡ None) × DoorRose (at_door d b c)) → d.served c ≡ None
      by (inl is) = is ∙ ap (λ (o : Option (List Call)). and_call o (told_call link)) none
      by (inr (is, up)) = is

  -- a link without a fault raises nothing, but where its door told of links
  pub done_quiet : is_failed link.faults ≡ false → QuietWhileTold (at_door d b c)
  done_quiet fine = by (d.served b) refl done.served
    where
      by : (was : Option (List Call)) → d.served b ≡ was
          → (d.served c ≡ and_call (d.served b) (told_call link)) ⊎ ((d.served c ≡ None) × DoorRose (at_door d b c)) → QuietWhileTold (at_door d b c)
      by was is (inl told) = inl (done.quiet fine told)
      by (Some calls) is (inr (none, up)) = inr (ap is_some is, none, up)
      by None is (inr (none, up)) = inl (done.quiet fine (none ∙ sym (ap (λ (o : Option (List Call)). and_call o (told_call link)) is)))
