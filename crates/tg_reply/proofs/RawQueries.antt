-- A query for a raw block that a request asks has no path.
use Rattle.std.proofs.Common.{Bool, Err, List, None, Ok, Option, Result, Some, [], ap, false, length, refl, subst, true, ℕ, ◌≡◌}
use Rattle.std.specs.Option.{unwrap_or}
use Rattle.std.specs.Prelude.{◌==◌, ◌||◌}
use Rattle.tg_http.specs.declared.request.RequestHead.{RequestHead}
use Rattle.tg_model.specs.Queries.{QueryParts}
use Rattle.tg_model.specs.declared.queries.Form.{Form}
use Rattle.tg_model.specs.declared.queries.Form.TheVariants as forms
use Rattle.tg_query.specs.declared.fault.QueryFault.{QueryFault}
use Rattle.tg_query.specs.Accepts.{accepted_of}
use Rattle.tg_query.specs.Joins.{car_query, car_with, default_choice, dups_of, format_for, join_by, join_of, raw_or_fault, raw_query}
use Rattle.tg_query.specs.Laws.{asked_by}
use Rattle.tg_query.specs.Targets.{target_of}
use Rattle.tg_query.specs.declared.accepts.CarChoice.{CarChoice}
use Rattle.tg_query.specs.declared.targets.Target.{Target}
use Rattle.tg_reply.specs.Asked.{asked, is_get, is_head, or_refusal}

-- two results that are equal hold equal values, and a value is no fault
ok_same : {T E : Type 0} {x y : T} → ◌≡◌ {A = Result T E} (Ok x) (Ok y) → x ≡ y
ok_same e = cc

ok_not_err : {T E : Type 0} {x : T} {y : E} → ◌≡◌ {A = Result T E} (Err y) (Ok x) → ⊥
ok_not_err e = cc

-- it is for a CAR, or has no path
abbrev IsPathless : QueryParts → Type 0
IsPathless q = q.form ≡ forms.Raw → q.path ≡ []

-- the raw query that a target asks has none
raw_joined : (target : Target) (q : QueryParts) → raw_or_fault target ≡ Ok q → IsPathless q
raw_joined target q e = by_path (length target.path == 0) refl
  where
    by_path : (t : Bool) → (length target.path == 0) ≡ t → IsPathless q
    by_path true t =
        let same : raw_query target ≡ q = ok_same (rw t at e) in
        subst IsPathless same (λ raw. refl)
    by_path false t = absurd (ok_not_err (rw t at e))

-- and a query for a CAR isn't for a raw block
car_joined : (target : Target) (dups : Option Bool) (q : QueryParts) → car_with target dups ≡ Ok q → IsPathless q
car_joined target None q e = absurd (ok_not_err e)
car_joined target (Some dups) q e =
    let same : car_query target dups ≡ q = ok_same e in
    subst IsPathless same (λ raw. absurd (no_raw raw))
  where
    no_raw : forms.Car ≡ forms.Raw → ⊥
    no_raw raw = cc

-- so is the query of each format
joined : (form : Option Form) (target : Target) (car : Option CarChoice) (q : QueryParts) → join_by form target car ≡ Ok q → IsPathless q
joined None target car q e = absurd (ok_not_err e)
joined (Some forms.Raw) target car q e = raw_joined target q e
joined (Some forms.Car) target car q e = car_joined target (dups_of (unwrap_or car default_choice)) q e

-- that a target and `Accept` ask
by_target : (text : List ℕ) (accept : List (List ℕ)) (q : QueryParts) → asked_by text accept ≡ Ok q → IsPathless q
by_target text accept q e = by_answer (target_of text) refl
  where
    by_answer : (answer : Result Target QueryFault) → target_of text ≡ answer → IsPathless q
    by_answer (Err fault) t = absurd (ok_not_err (rw t at e))
    by_answer (Ok target) t =
        let is : join_of target (accepted_of accept) ≡ Ok q = rw t at e in
        joined (format_for target.format (accepted_of accept).first) target (accepted_of accept).car q is

-- a refusal is no query
by_query : (answer : Result QueryParts QueryFault) (q : QueryParts) → or_refusal answer ≡ Ok q → answer ≡ Ok q
by_query (Ok other) q e = ap Ok (ok_same e)
by_query (Err fault) q e = absurd (ok_not_err e)

-- and that the head of a request asks
pub raw_path : (head : RequestHead) (q : QueryParts) → asked head ≡ Ok q → q.form ≡ forms.Raw → q.path ≡ []
raw_path head q e = by_framed head.framed refl
  where
    by_method : (t : Bool) → head.framed ≡ false → (is_get head.method || is_head head.method) ≡ t → IsPathless q
    by_method true f t = by_target head.target head.accept q (by_query (asked_by head.target head.accept) q (rw (f, t) at e))
    by_method false f t = absurd (ok_not_err (rw (f, t) at e))

    by_framed : (t : Bool) → head.framed ≡ t → IsPathless q
    by_framed true f = absurd (ok_not_err (rw f at e))
    by_framed false f = by_method (is_get head.method || is_head head.method) f refl
