-- What a target is read as has a good path and a good range.
use Rattle.std.proofs.Common.{All, Bool, List, None, Ok, Option, Result, Some, [], ap, arith, false, inl, inr, length, subst, sym, true, ℕ, ◌∷◌, ◌≡◌, ◌≤◌}
use Rattle.std.specs.Prelude.{IfSome, bytes_eq, codes, if◌then◌else◌, ◌↔◌}
use Rattle.std.proofs.lemmas.Bool.{cond_both}
use Rattle.std.proofs.lemmas.List.Elements.{All-nil}
use Rattle.tg_cid.specs.Cid.{CidParts}
use Rattle.tg_model.specs.EntryNames.{IsGoodName}
use Rattle.tg_model.specs.Queries.{IsSpan, SpanParts}
use Rattle.tg_model.specs.declared.queries.Form.{Form}
use Rattle.tg_model.specs.declared.queries.Scope.{Scope}
use Rattle.tg_query.specs.AnswerLaws.{bind_ok}
use Rattle.tg_query.specs.Answers.{Gives, unless, ◌>>=◌}
use Rattle.tg_query.specs.Cuts.{behind_front, cut_first}
use Rattle.tg_query.specs.Paths.{PathBehind}
use Rattle.tg_query.specs.Spans.{SpanText, span_of}
use Rattle.tg_query.specs.WordTexts.{Rooted, RootedText, ipfs, rooted_of}
use Rattle.tg_query.specs.declared.fault.QueryFault.{QueryFault}
use Rattle.tg_query.specs.declared.fault.QueryFault.TheVariants.{Doubled}
use Rattle.tg_query.specs.Targets.{IsTarget, asked_of, behind_ipfs, form_of, is_given, nothing, pair_of, pieces_of, scope_of, target_by, target_of, target_with, with_format, with_param, with_piece, with_pieces, with_scope, with_span}
use Rattle.tg_query.specs.declared.targets.Asked.{Asked}
use Rattle.tg_query.specs.declared.targets.Target.{Target}

pub unless_ok : {A : Type 0} (t : Bool) (fault : QueryFault) (r : Result A QueryFault) (a : A) → unless t fault r ≡ Ok a → r ≡ Ok a
unless_ok true fault r a e = absurd cc
unless_ok false fault r a e = e

abbrev pub SpanLaw : Type 0
SpanLaw = (text : List ℕ) (span : SpanParts) → (span_of text ≡ Ok span) ↔ SpanText text span

abbrev Good : Asked → Type 0
Good asked = IfSome asked.span IsSpan

format_good : (asked more : Asked) (word : List ℕ) → with_format asked word ≡ Ok more → Good asked → Good more
format_good asked more word e h =
    let inner = bind_ok (form_of word) (λ (form : Form). Ok (record asked { format = Some form })) more (unless_ok (is_given asked.format) Doubled _ more e) in
    let same : record asked { format = Some inner.0 } ≡ more = cc (inner.2) in
    subst Good same h

scope_good : (asked more : Asked) (word : List ℕ) → with_scope asked word ≡ Ok more → Good asked → Good more
scope_good asked more word e h =
    let inner = bind_ok (scope_of word) (λ (scope : Scope). Ok (record asked { scope = Some scope })) more (unless_ok (is_given asked.scope) Doubled _ more e) in
    let same : record asked { scope = Some inner.0 } ≡ more = cc (inner.2) in
    subst Good same h

span_good : SpanLaw → (asked more : Asked) (text : List ℕ) → with_span asked text ≡ Ok more → Good more
span_good law asked more text e =
    let inner = bind_ok (span_of text) (λ (span : SpanParts). Ok (record asked { span = Some span })) more (unless_ok (is_given asked.span) Doubled _ more e) in
    let same : record asked { span = Some inner.0 } ≡ more = cc (inner.2) in
    let good : IsSpan inner.0 = ((law text inner.0).0 inner.1).well_formed in
    subst Good same good

param_good : SpanLaw → (asked more : Asked) (key value : List ℕ) → with_param asked key value ≡ Ok more → Good asked → Good more
param_good law asked more key value e h =
    cond_both (bytes_eq key (codes "format")) (with_format asked value)
    (if bytes_eq key (codes "dag-scope") then with_scope asked value else (if bytes_eq key (codes "entity-bytes") then with_span asked value else Ok asked))
    (λ (r : Result Asked QueryFault). r ≡ Ok more → Good more)
    (λ t e. format_good asked more value e h)
    (λ f. cond_both (bytes_eq key (codes "dag-scope")) (with_scope asked value) (if bytes_eq key (codes "entity-bytes") then with_span asked value else Ok asked)
    (λ (r : Result Asked QueryFault). r ≡ Ok more → Good more)
    (λ t e. scope_good asked more value e h)
    (λ g. cond_both (bytes_eq key (codes "entity-bytes")) (with_span asked value) (Ok asked) (λ (r : Result Asked QueryFault). r ≡ Ok more → Good more)
    (λ t e. span_good law asked more value e)
    (λ k e. let same : asked ≡ more = cc in subst Good same h)))
    e

pieces_good : SpanLaw → (asked more : Asked) (pieces : List (List ℕ)) → with_pieces asked pieces ≡ Ok more → Good asked → Good more
pieces_good law asked more [] e h = let same : asked ≡ more = cc in subst Good same h
pieces_good law asked more (piece ∷ pieces) e h =
    let inner = bind_ok (with_piece asked piece) (λ (next : Asked). with_pieces next pieces) more e in
    pieces_good law inner.0 more pieces inner.2 (param_good law asked inner.0 (pair_of piece).0 (pair_of piece).1 inner.1 h)

path_good : (rest : Option (List ℕ)) (path : List (List ℕ)) → PathBehind rest path → (length path ≤ 128) × All IsGoodName path
path_good None path e = (omega (arith, ap length e), subst (λ (l : List (List ℕ)). All IsGoodName l) (sym e) (All-nil IsGoodName))
path_good (Some text) path h = (h.few, h.good)

target_good_by : SpanLaw → ((text : List ℕ) (root : CidParts) (path : List (List ℕ)) → (rooted_of text ≡ Ok (root, path)) ↔ RootedText text root path)
    → (front : List ℕ) (query : Option (List ℕ)) (target : Target) → target_by (front, query) ≡ Ok target → IsTarget target
target_good_by spans roots front query target e =
    let first = bind_ok (rooted_of front) (λ (rooted : Rooted). asked_of query >>= λ asked. Ok (target_with rooted asked)) target e in
    let second = bind_ok (asked_of query) (λ (asked : Asked). Ok (target_with first.0 asked)) target first.2 in
    let same : target_with first.0 second.0 ≡ target = cc (second.2) in
    let text = (roots front first.0.0 first.0.1).0 first.1 in
    let path = path_good text.rest first.0.1 text.path_is in
    subst IsTarget same (record { few = path.0; good = path.1; span = pieces_good spans nothing second.0 (pieces_of query) second.1 tt })

target_good_at : SpanLaw → ((text : List ℕ) (root : CidParts) (path : List (List ℕ)) → (rooted_of text ≡ Ok (root, path)) ↔ RootedText text root path)
    → (o : Option (List ℕ)) (target : Target) → behind_ipfs o ≡ Ok target → IsTarget target
target_good_at spans roots None target e = absurd cc
target_good_at spans roots (Some rest) target e = target_good_by spans roots (cut_first 63 rest).0 (cut_first 63 rest).1 target e

pub target_good : SpanLaw → ((text : List ℕ) (root : CidParts) (path : List (List ℕ)) → (rooted_of text ≡ Ok (root, path)) ↔ RootedText text root path)
    → (text : List ℕ) (target : Target) → Gives (target_of text) (Ok target) → IsTarget target
target_good spans roots text target (inl e) = target_good_at spans roots (behind_front ipfs text) target (sym e)
target_good spans roots text target (inr e) = absurd cc
