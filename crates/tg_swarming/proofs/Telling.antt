-- What a dial tells of the links that were given back, one step after another.
use Rattle.std.proofs.Common.{All, Contains, List, None, Option, [], ap, ap₂, arith, inl, inr, refl, subst, suc, sym, true, ℕ, ◌+◌, ◌++◌, ◌<◌, ◌∙◌, ◌∷◌, ◌≡◌, ◌≤◌, ◌⊎◌}
use Rattle.std.proofs.lemmas.List.Sums.{sum-map, sum_by-append}
use Rattle.std.proofs.lemmas.List.Elements.{Contains-append_left, Contains-push_cases}
use Rattle.tg_dials.specs.Dials.{DialMeaning, DialQuiet, DialRose, IsHungUp, KeepsCalls, KeepsMissed, at_dial}
use Rattle.tg_faults.specs.Faults.{counted}
use Rattle.tg_links.specs.Views.{and_call, is_failed, told_call}
use Rattle.tg_links.specs.declared.call.Call as told
use Rattle.tg_parts.specs.Connections.{Connection}
use Rattle.tg_swarming.specs.Rounds.{DialTells, IsOver, Over, Setup, WasHeardOn, and_overs, one_if, spoilt_count}

-- ---- one link more

pub overs_more : (calls : Option (List told.Call)) (overs : List Over) (o : Over)
    → and_overs calls (overs ++ o ∷ []) ≡ and_call (and_overs calls overs) (told_call o.link)
overs_more calls [] o = refl
overs_more calls (first ∷ overs) o = overs_more (and_call calls (told_call first.link)) overs o

spoilt_both : (overs more : List Over) → spoilt_count (overs ++ more) ≡ spoilt_count overs + spoilt_count more
spoilt_both overs more =
    let count = λ (o : Over). one_if o.refusal in
    sum-map count (overs ++ more) ∙ sum_by-append count overs more ∙ sym (ap₂ (λ (m n : ℕ). m + n) (sum-map count overs) (sum-map count more))

pub spoilt_more : (overs : List Over) (o : Over) → spoilt_count (overs ++ o ∷ []) ≡ spoilt_count overs + one_if o.refusal
spoilt_more overs o = spoilt_both overs (o ∷ []) ∙ omega arith

pub spoilt_least : (overs more : List Over) → spoilt_count overs ≤ spoilt_count (overs ++ more)
spoilt_least overs more = omega (arith, spoilt_both overs more)

pub heard_more : (overs more : List Over) (c : Connection) → WasHeardOn overs c → WasHeardOn (overs ++ more) c
heard_more overs more c h =
    record { over = h.over; among = Contains-append_left overs more h.over h.among; query = h.query; heard = h.heard; answered = h.answered }

pub all_heard : (overs more : List Over) (cs : List Connection) → All (WasHeardOn overs) cs → All (WasHeardOn (overs ++ more)) cs
all_heard overs more cs all = λ k d lt. heard_more overs more _ (all k d lt)

-- ---- what was dialled

-- what was dialled by then was dialled by this later moment
abbrev pub DialledStay : {D : Type 0} → DialMeaning D → D → D → Type 0
DialledStay {D} d b c = (first : D) (addr : List ℕ) → d.dialled first b addr → d.dialled first c addr

module _ (setup : Setup) (old new : List ℕ → Type 0) (on : (addr : List ℕ) → old addr → new addr) where
  pub over_on : (o : Over) → IsOver setup old o → IsOver setup new o
  over_on o h = record { peer = h.peer; dialled = on o.addr h.dialled; asked = h.asked; said = h.said; whole = h.whole; why = h.why }

  pub overs_on : (overs : List Over) → All (IsOver setup old) overs → All (IsOver setup new) overs
  overs_on overs all k d lt = over_on _ (all k d lt)

-- ---- a dial

module _ {D : Type 0} (d : DialMeaning D) where
  pub tells_first : (a : D) → DialTells (at_dial d a a) [] 0
  tells_first a = record {
    calls = inl refl;
    missed_is = refl;
    rose = none;
    counted = omega arith;
  }
    where
      none : (0 < 0) ⊎ ((o : Over) × Contains [] o × (is_failed o.link.faults ≡ true)) → DialRose (at_dial d a a)
      none (inl never) = let no : ⊥ = omega (arith, never) in absurd no
      none (inr (o, among, failed)) = let lt = among.1 in let no : ⊥ = omega (arith, lt) in absurd no

  module _ (a b c : D) (overs : List Over) (missed : ℕ) (tells : DialTells (at_dial d a b) overs missed) where
    rose_on : d.faults b ≤ d.faults c → DialRose (at_dial d a b) → DialRose (at_dial d a c)
    rose_on le rose = λ lt. let up = rose (omega (arith, lt, le)) in omega (arith, up, le)

    rose_here : DialRose (at_dial d b c) → DialRose (at_dial d a c)
    rose_here rose = λ lt. let up = rose lt in let was = tells.counted in omega (arith, up, was)

    calls_on : KeepsCalls (at_dial d b c) → (d.calls b ≡ and_overs (d.calls a) overs) ⊎ (d.calls b ≡ None)
        → (d.calls c ≡ and_overs (d.calls a) overs) ⊎ (d.calls c ≡ None)
    calls_on keeps (inl is) = inl (keeps ∙ is)
    calls_on keeps (inr none) = inr (keeps ∙ none)

    -- a link was made
    pub tells_made : KeepsMissed (at_dial d b c) → DialQuiet (at_dial d b c) → KeepsCalls (at_dial d b c) → DialTells (at_dial d a c) overs missed
    tells_made keeps quiet calls = record {
      calls = calls_on calls tells.calls;
      missed_is = keeps ∙ tells.missed_is;
      rose = λ why. rose_on (omega (arith, quiet)) (tells.rose why);
      counted = let was = tells.counted in omega (arith, quiet, was);
    }

    -- none was
    pub tells_missed : d.missed c ≡ counted (d.missed b) → DialRose (at_dial d b c) → KeepsCalls (at_dial d b c) → d.faults b ≤ d.faults c
        → DialTells (at_dial d a c) overs (suc missed)
    tells_missed one rose calls le = record {
      calls = calls_on calls tells.calls;
      missed_is = one ∙ ap counted tells.missed_is;
      rose = λ why. rose_here rose;
      counted = let was = tells.counted in omega (arith, le, was);
    }

    -- one was given back
    pub tells_back : (o : Over) → IsHungUp o.link (at_dial d b c) → KeepsMissed (at_dial d b c) → DialTells (at_dial d a c) (overs ++ o ∷ []) missed
    tells_back o hung keeps = record {
      calls = back hung.calls tells.calls;
      missed_is = keeps ∙ tells.missed_is;
      rose = risen;
      counted = let was = tells.counted in let more = hung.counted in omega (arith, was, more);
    }
      where
        back : (d.calls c ≡ and_call (d.calls b) (told_call o.link)) ⊎ ((d.calls c ≡ None) × DialRose (at_dial d b c))
            → (d.calls b ≡ and_overs (d.calls a) overs) ⊎ (d.calls b ≡ None)
            → (d.calls c ≡ and_overs (d.calls a) (overs ++ o ∷ [])) ⊎ (d.calls c ≡ None)
        back (inr (none, rose)) was = inr none
        back (inl is) (inl was) =
            inl (is ∙ ap (λ (calls : Option (List told.Call)). and_call calls (told_call o.link)) was ∙ sym (overs_more (d.calls a) overs o))
        back (inl is) (inr none) = inr (is ∙ ap (λ (calls : Option (List told.Call)). and_call calls (told_call o.link)) none)

        risen : (0 < missed) ⊎ ((x : Over) × Contains (overs ++ o ∷ []) x × (is_failed x.link.faults ≡ true)) → DialRose (at_dial d a c)
        risen (inl some) = rose_on hung.counted (tells.rose (inl some))
        risen (inr (x, among, failed)) = by (Contains-push_cases overs o x among)
          where
            by : Contains overs x ⊎ (o ≡ x) → DialRose (at_dial d a c)
            by (inl was) = rose_on hung.counted (tells.rose (inr (x, was, failed)))
            by (inr is) = rose_here (hung.failed (subst (λ (y : Over). is_failed y.link.faults ≡ true) (sym is) failed))
