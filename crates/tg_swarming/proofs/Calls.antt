-- What a dial that tells its calls tells of each link that was given back.
use Rattle.std.proofs.Common.{Contains, List, None, Option, Some, [], ap, append-nil, append_assoc, arith, inl, inr, refl, subst, sym, ℕ, ◌++◌, ◌∙◌, ◌∷◌, ◌≡◌, ◌⊎◌}
use Rattle.std.proofs.lemmas.List.{append_cancel_left}
use Rattle.std.proofs.lemmas.List.Elements.{Contains-append_cases, Contains-append_left, Contains-append_right, Contains-push, Contains-push_cases}
use Rattle.tg_dials.specs.Dials.{Dialling}
use Rattle.tg_links.specs.Views.{LinkView, and_call, call_with, is_failed, told_call}
use Rattle.tg_links.specs.declared.call.Call as told
use Rattle.tg_swarming.specs.Rounds.{DialTells, Over, and_overs}

-- ---- an element of a list with one more in front

pub first_in : {X : Type 0} (x : X) (xs : List X) → Contains (x ∷ xs) x
first_in x xs = Contains-append_left (x ∷ []) xs x (Contains-push [] x)

pub behind_in : {X : Type 0} (first x : X) (xs : List X) → Contains xs x → Contains (first ∷ xs) x
behind_in first x xs there = Contains-append_right (first ∷ []) xs x there

pub first_or_behind : {X : Type 0} (first x : X) (xs : List X) → Contains (first ∷ xs) x → (first ≡ x) ⊎ Contains xs x
first_or_behind first x xs there = by (Contains-append_cases (first ∷ []) xs x there)
  where
    by : Contains (first ∷ []) x ⊎ Contains xs x → (first ≡ x) ⊎ Contains xs x
    by (inr behind) = inr behind
    by (inl here) = one (Contains-push_cases [] first x here)
      where
        one : Contains [] x ⊎ (first ≡ x) → (first ≡ x) ⊎ Contains xs x
        one (inl none) = let lt = none.1 in let no : ⊥ = omega (arith, lt) in absurd no
        one (inr is) = inl is

-- ---- the calls that are told of links

-- the call of each link is among them
abbrev pub HasCall : List told.Call → Over → Type 0
HasCall calls o = (call : told.Call) × Contains calls call × (told_call o.link ≡ Some call)

-- these are told behind others
record AreTold (before : List told.Call) (overs : List Over) (all : List told.Call) : Type 0 where
  calls : List told.Call
  all_are : all ≡ before ++ calls
  each : (o : Over) → Contains overs o → HasCall calls o

-- where those before aren't told none is
untold : (overs : List Over) → and_overs None overs ≡ None
untold [] = refl
untold (o ∷ overs) = untold overs

are_told : (before : List told.Call) (overs : List Over) (all : List told.Call) → and_overs (Some before) overs ≡ Some all → AreTold before overs all
are_told before [] all e = record { calls = []; all_are = let same : before ≡ all = cc in sym same ∙ sym (append-nil before); each = λ o none. let lt = none.1 in absurd (omega (arith, lt)) }
are_told before (first ∷ overs) all e = by (told_call first.link) refl e (λ start. are_told start overs all)
  where
    by : (t : Option told.Call) → told_call first.link ≡ t → and_overs (and_call (Some before) t) overs ≡ Some all
        → ((start : List told.Call) → and_overs (Some start) overs ≡ Some all → AreTold start overs all) → AreTold before (first ∷ overs) all
    by None is e behind = let no : None ≡ Some all = sym (untold overs) ∙ e in absurd (let never : ⊥ = cc in never)
    by (Some call) is e behind =
        let more = behind (before ++ call ∷ []) e in
        record { calls = call ∷ more.calls; all_are = more.all_are ∙ append_assoc before (call ∷ []) more.calls; each = λ o there. each more o (first_or_behind first o overs there) }
      where
        each : (more : AreTold (before ++ call ∷ []) overs all) (o : Over) → (first ≡ o) ⊎ Contains overs o → HasCall (call ∷ more.calls) o
        each more o (inl same) = (call, first_in call more.calls, ap (λ (x : Over). told_call x.link) (sym same) ∙ is)
        each more o (inr there) = let (other, among, e) = more.each o there in (other, behind_in call other more.calls among, e)

-- so where the dial tells new calls the call of each link is one of them
pub has_call : (dial : Dialling) (overs : List Over) (missed : ℕ) (before calls : List told.Call) (o : Over) → DialTells dial overs missed → dial.calls_old ≡ Some before
    → dial.calls_new ≡ Some (before ++ calls) → Contains overs o → HasCall calls o
has_call dial overs missed before calls o tells old new among =
    let t = are_told before overs (before ++ calls) (ap (λ (was : Option (List told.Call)). and_overs was overs) (sym old) ∙ sym (new_is tells.calls) ∙ new) in
    subst (λ (l : List told.Call). HasCall l o) (sym (append_cancel_left before calls t.calls t.all_are)) (t.each o among)
  where
    new_is : (dial.calls_new ≡ and_overs dial.calls_old overs) ⊎ (dial.calls_new ≡ None) → dial.calls_new ≡ and_overs dial.calls_old overs
    new_is (inl is) = is
    new_is (inr none) = let no : None ≡ Some (before ++ calls) = sym none ∙ new in absurd (let never : ⊥ = cc in never)

-- ---- what a call tells of its link

pub record TellsOf (link : LinkView) (call : told.Call) : Type 0 where
  pub heard : link.heard ≡ Some call.heard
  pub said : link.said ≡ Some call.said
  pub over : call.over ≡ link.over
  pub failed : call.failed ≡ is_failed link.faults

pub tells_of : (link : LinkView) (call : told.Call) → told_call link ≡ Some call → TellsOf link call
tells_of link call is = by link.heard link.said refl refl is
  where
    by : (heard said : Option (List ℕ)) → link.heard ≡ heard → link.said ≡ said → call_with heard said link.over (is_failed link.faults) ≡ Some call → TellsOf link call
    by None said h s e = absurd (let no : ⊥ = cc in no)
    by (Some heard) None h s e = absurd (let no : ⊥ = cc in no)
    by (Some heard) (Some said) h s e =
        let made : told.Call = record { heard = heard; said = said; over = link.over; failed = is_failed link.faults } in
        let same : made ≡ call = cc in
        record {
          heard = h ∙ ap (λ (c : told.Call). Some c.heard) same;
          said = s ∙ ap (λ (c : told.Call). Some c.said) same;
          over = ap (λ (c : told.Call). c.over) (sym same);
          failed = ap (λ (c : told.Call). c.failed) (sym same);
        }
