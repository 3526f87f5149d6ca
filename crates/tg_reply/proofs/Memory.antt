-- What is computed of a request never says that memory was wanted.
use Rattle.std.proofs.Common.{◌≡◌, ◌≢◌, ℕ, Bool, true, false, List, [], ◌∷◌, Err, None, Ok, Option, Result, Some, cond, length, refl, sym, ap, ◌∙◌}
use Rattle.std.specs.Option.{unwrap_or}
use Rattle.std.specs.Prelude.{bytes_eq, codes, ◌==◌, ◌||◌}
use Rattle.tg_cid.specs.Faults.{HasTextCause}
use Rattle.tg_cid.specs.declared.fault.CidFault.{CidFault}
use Rattle.tg_http.specs.declared.request.RequestHead.{RequestHead}
use Rattle.tg_model.specs.Queries.{QueryParts}
use Rattle.tg_model.specs.declared.queries.Form.{Form}
use Rattle.tg_model.specs.declared.queries.Form.TheVariants as forms
use Rattle.tg_model.specs.declared.queries.Scope.TheVariants as scopes
use Rattle.tg_query.specs.Answers.{unless, ◌>>=◌}
use Rattle.tg_query.specs.CidAnswers.{root_of}
use Rattle.tg_query.specs.Cuts.{behind_front, cut_first}
use Rattle.tg_query.specs.Paths.{path_behind, path_of}
use Rattle.tg_query.specs.Spans.{span_of}
use Rattle.tg_query.specs.WordTexts.{Rooted, rooted_of, rooted_with}
use Rattle.tg_query.specs.declared.fault.QueryFault.{QueryFault}
use Rattle.tg_query.specs.declared.fault.QueryFault.TheVariants as faults
use Rattle.tg_query.specs.Accepts.{accepted_of}
use Rattle.tg_query.specs.Joins.{car_query, car_with, default_choice, dups_of, format_for, join_by, join_of, raw_query}
use Rattle.tg_query.specs.Laws.{asked_by}
use Rattle.tg_query.specs.Targets.{asked_of, behind_ipfs, is_given, nothing, pair_of, pieces_of, form_of, scope_of, target_of, target_with, with_format, with_param, with_piece, with_pieces, with_scope, with_span}
use Rattle.tg_query.specs.declared.accepts.CarChoice.{CarChoice}
use Rattle.tg_query.specs.declared.targets.Target.{Target}
use Rattle.tg_reply.specs.Asked.{asked, is_get, is_head, or_refusal}
use Rattle.tg_reply.specs.declared.refusal.Refusal.TheVariants as refusals

-- no fault of this answer is want of memory
abbrev Never : {A : Type 0} → Result A QueryFault → Type 0
Never result = (fault : QueryFault) → result ≡ Err fault → fault ≢ faults.OutOfMemory

never_ok : {A : Type 0} (x : A) → Never (Ok x)
never_ok x fault e = absurd cc

never_err : {A : Type 0} (first : QueryFault) → first ≢ faults.OutOfMemory → Never {A = A} (Err first)
never_err first other fault e memory =
    let same : first ≡ fault = cc in
    other (same ∙ memory)

never_then : {A B : Type 0} (r : Result A QueryFault) (g : A → Result B QueryFault) → Never r → ((x : A) → Never (g x)) → Never (r >>= g)
never_then (Ok x) g h k = k x
never_then (Err first) g h k = never_err first (h first refl)

never_unless : {A : Type 0} (t : Bool) (first : QueryFault) (r : Result A QueryFault) → first ≢ faults.OutOfMemory → Never r → Never (unless t first r)
never_unless true first r other h = never_err first other
never_unless false first r other h = h

never_cond : {A : Type 0} (t : Bool) (r s : Result A QueryFault) → Never r → Never s → Never (cond t r s)
never_cond true r s h k = h
never_cond false r s h k = k

-- ---- the target

form_never : (word : List ℕ) → Never (form_of word)
form_never word =
    never_cond (bytes_eq word (codes "raw")) (Ok forms.Raw) (cond (bytes_eq word (codes "car")) (Ok forms.Car) (Err faults.BadFormat)) (never_ok forms.Raw)
    (never_cond (bytes_eq word (codes "car")) (Ok forms.Car) (Err faults.BadFormat) (never_ok forms.Car) (never_err faults.BadFormat (λ e. absurd cc)))

scope_never : (word : List ℕ) → Never (scope_of word)
scope_never word = by_tests (bytes_eq word (codes "block")) (bytes_eq word (codes "entity")) (bytes_eq word (codes "all"))
  where
    by_tests : (a b c : Bool) → Never (cond a (Ok scopes.Block) (cond b (Ok scopes.Entity) (cond c (Ok scopes.All) (Err faults.BadScope))))
    by_tests true b c = never_ok scopes.Block
    by_tests false true c = never_ok scopes.Entity
    by_tests false false true = never_ok scopes.All
    by_tests false false false = never_err faults.BadScope (λ e. absurd cc)

module _ (roots : (text : List ℕ) (fault : QueryFault) → root_of text ≡ Err fault → (inner : CidFault) × (fault ≡ faults.BadCid inner) × HasTextCause text inner)
    (paths : (text : List ℕ) (fault : QueryFault) → path_of text ≡ Err fault → fault ≡ faults.BadPath)
    (spans : (text : List ℕ) (fault : QueryFault) → span_of text ≡ Err fault → fault ≡ faults.BadRange) where
  root_never : (text : List ℕ) → Never (root_of text)
  root_never text fault e memory =
      let told = roots text fault e in
      absurd (by_fault told.0 (sym told.1 ∙ memory))
    where
      by_fault : (inner : CidFault) → faults.BadCid inner ≡ faults.OutOfMemory → ⊥
      by_fault inner e = cc

  path_never : (text : List ℕ) → Never (path_of text)
  path_never text fault e memory =
      let same : faults.BadPath ≡ faults.OutOfMemory = sym (paths text fault e) ∙ memory in
      absurd cc

  behind_never : (rest : Option (List ℕ)) → Never (path_behind rest)
  behind_never None = never_ok []
  behind_never (Some text) = path_never text

  span_never : (text : List ℕ) → Never (span_of text)
  span_never text fault e memory =
      let same : faults.BadRange ≡ faults.OutOfMemory = sym (spans text fault e) ∙ memory in
      absurd cc

  rooted_never : (parts : List ℕ × Option (List ℕ)) → Never (rooted_with parts)
  rooted_never parts =
      never_then {B = Rooted} (root_of parts.0) (λ root. path_behind parts.1 >>= λ path. Ok (root, path)) (root_never parts.0)
      (λ root. never_then {B = Rooted} (path_behind parts.1) (λ path. Ok (root, path)) (behind_never parts.1) (λ path. never_ok {A = Rooted} (root, path)))

  param_never : (asked : _) (key value : List ℕ) → Never (with_param asked key value)
  param_never asked key value = by_tests (bytes_eq key (codes "format")) (bytes_eq key (codes "dag-scope")) (bytes_eq key (codes "entity-bytes"))
    where
      by_tests : (a b c : Bool) → Never (cond a (with_format asked value) (cond b (with_scope asked value) (cond c (with_span asked value) (Ok asked))))
      by_tests true b c =
          never_unless (is_given asked.format) faults.Doubled (form_of value >>= λ form. Ok (record asked { format = Some form })) (λ e. absurd cc)
          (never_then (form_of value) (λ form. Ok (record asked { format = Some form })) (form_never value) (λ form. never_ok (record asked { format = Some form })))
      by_tests false true c =
          never_unless (is_given asked.scope) faults.Doubled (scope_of value >>= λ scope. Ok (record asked { scope = Some scope })) (λ e. absurd cc)
          (never_then (scope_of value) (λ scope. Ok (record asked { scope = Some scope })) (scope_never value) (λ scope. never_ok (record asked { scope = Some scope })))
      by_tests false false true =
          never_unless (is_given asked.span) faults.Doubled (span_of value >>= λ span. Ok (record asked { span = Some span })) (λ e. absurd cc)
          (never_then (span_of value) (λ span. Ok (record asked { span = Some span })) (span_never value) (λ span. never_ok (record asked { span = Some span })))
      by_tests false false false = never_ok asked

  pieces_never : (asked : _) (pieces : List (List ℕ)) → Never (with_pieces asked pieces)
  pieces_never asked [] = never_ok asked
  pieces_never asked (piece ∷ pieces) =
      never_then (with_piece asked piece) (λ more. with_pieces more pieces) (param_never asked (pair_of piece).0 (pair_of piece).1) (λ more. pieces_never more pieces)

  target_never : (text : List ℕ) → Never (target_of text)
  target_never text = by_front (behind_front (codes "/ipfs/") text)
    where
      by_front : (rest : Option (List ℕ)) → Never (behind_ipfs rest)
      by_front None = never_err faults.BadPath (λ e. absurd cc)
      by_front (Some rest) =
          let parts = cut_first 63 rest in
          never_then (rooted_of parts.0) (λ rooted. asked_of parts.1 >>= λ asked. Ok (target_with rooted asked)) (rooted_never (cut_first 47 parts.0))
          (λ rooted. never_then (asked_of parts.1) (λ asked. Ok (target_with rooted asked)) (pieces_never nothing (pieces_of parts.1)) (λ asked. never_ok (target_with rooted asked)))

  join_never : (form : Option Form) (target : Target) (car : Option CarChoice) → Never (join_by form target car)
  join_never None target car = never_err faults.NoFormat (λ e. absurd cc)
  join_never (Some forms.Raw) target car =
      never_cond (length target.path == 0) (Ok (raw_query target)) (Err faults.RawPath) (never_ok (raw_query target)) (never_err faults.RawPath (λ e. absurd cc))
  join_never (Some forms.Car) target car = by_dups (dups_of (unwrap_or car default_choice))
    where
      by_dups : (dups : Option Bool) → Never (car_with target dups)
      by_dups None = never_err faults.BadParam (λ e. absurd cc)
      by_dups (Some dups) = never_ok (car_query target dups)

  asked_never : (target : List ℕ) (accept : List (List ℕ)) → Never (asked_by target accept)
  asked_never target accept =
      never_then (target_of target) (λ parts. join_of parts (accepted_of accept)) (target_never target)
      (λ parts. join_never (format_for parts.format (accepted_of accept).first) parts (accepted_of accept).car)

  pub never_memory : (head : RequestHead) (fault : QueryFault) → asked head ≡ Err (refusals.Query fault) → fault ≢ faults.OutOfMemory
  never_memory head fault e = by_tests head.framed (is_get head.method || is_head head.method) e
    where
      by_answer : (r : Result QueryParts QueryFault) → Never r → or_refusal r ≡ Err (refusals.Query fault) → fault ≢ faults.OutOfMemory
      by_answer (Ok q) h e = absurd cc
      by_answer (Err first) h e =
          let same : first ≡ fault = cc in
          h fault (ap (λ (f : QueryFault). Err f) same)

      by_tests : (framed method : Bool) → cond framed (Err refusals.BadFraming) (cond method (or_refusal (asked_by head.target head.accept)) (Err refusals.BadMethod)) ≡ Err (refusals.Query fault)
          → fault ≢ faults.OutOfMemory
      by_tests true method e = absurd cc
      by_tests false true e = by_answer (asked_by head.target head.accept) (asked_never head.target head.accept) e
      by_tests false false e = absurd cc
