-- What a word ROOT/PATH and the options `--scope`, `--bytes` and `--dups` ask is one query, or none.
use Rattle.std.proofs.Common.{◌≡◌, ℕ, inl, inr, List, codes, Ok, Err, Option, Some, None, Bool, false, true, get_or, refl, sym, ap, ◌∙◌, subst, arith}
use Rattle.std.specs.Prelude.{All, Result, ◌↔◌}
use Rattle.std.specs.Option.{unwrap_or}
use Rattle.tg_cid.specs.Cid.{CidParts}
use Rattle.tg_model.specs.EntryNames.{IsGoodName}
use Rattle.tg_model.specs.Queries.{QueryParts, SpanParts}
use Rattle.tg_model.specs.declared.queries.Form.TheVariants.{Car}
use Rattle.tg_model.specs.declared.queries.Scope.{Scope}
use Rattle.tg_model.specs.declared.queries.Scope.TheVariants as scopes
use Rattle.tg_query.specs.Answers.{Gives}
use Rattle.tg_query.specs.Paths.{PathBehind}
use Rattle.tg_query.specs.Spans.{SpanText, span_of}
use Rattle.tg_query.specs.WordTexts.{Rooted, WordText, word_of}
use Rattle.tg_query.specs.declared.fault.QueryFault.{QueryFault}
use Rattle.tg_query.specs.declared.fault.QueryFault.TheVariants as queries
use Rattle.tg_words.specs.Words.{Given, StandOnce}
use Rattle.tg_words.specs.Operands.{Exact, QueryBy, QueryGiven, ValueGives, fault_of_query, value_at}
use Rattle.tg_words.specs.QueryWords.{DupsText, QueryAsked, ScopeText, dups_for, scope_for}
use Rattle.tg_words.specs.declared.WordsFault.{WordsFault}
use Rattle.tg_words.proofs.Options.{HaveValues, gives_value, value_gives, one_given}

-- what is computed of words and ranges is what their grammars say
abbrev pub ReadsWords : Type 0
ReadsWords = (word : List ℕ) (root : CidParts) (path : List (List ℕ)) → (word_of word ≡ Ok (root, path)) ↔ WordText word root path

abbrev pub ReadsSpans : Type 0
ReadsSpans = (text : List ℕ) (span : SpanParts) → (span_of text ≡ Ok span) ↔ SpanText text span

one_scope : (text : List ℕ) (a b : Scope) → ScopeText text a → ScopeText text b → a ≡ b
one_scope text scopes.Block scopes.Block p q = refl
one_scope text scopes.Block scopes.Entity p q = let both : codes "block" ≡ codes "entity" = sym p ∙ q in absurd (cc)
one_scope text scopes.Block scopes.All p q = let both : codes "block" ≡ codes "all" = sym p ∙ q in absurd (cc)
one_scope text scopes.Entity scopes.Block p q = let both : codes "entity" ≡ codes "block" = sym p ∙ q in absurd (cc)
one_scope text scopes.Entity scopes.Entity p q = refl
one_scope text scopes.Entity scopes.All p q = let both : codes "entity" ≡ codes "all" = sym p ∙ q in absurd (cc)
one_scope text scopes.All scopes.Block p q = let both : codes "all" ≡ codes "block" = sym p ∙ q in absurd (cc)
one_scope text scopes.All scopes.Entity p q = let both : codes "all" ≡ codes "entity" = sym p ∙ q in absurd (cc)
one_scope text scopes.All scopes.All p q = refl

-- the words are two
y_or_n : codes "y" ≡ codes "n" → ⊥
y_or_n e = let same : 121 ≡ 110 = ap (λ (l : List ℕ). get_or l 0 0) e in omega (arith, same)

pub one_dups : (text : List ℕ) (a b : Bool) → DupsText text a → DupsText text b → a ≡ b
one_dups text true true p q = refl
one_dups text true false p q = absurd (y_or_n (sym p ∙ q))
one_dups text false true p q = absurd (y_or_n (sym q ∙ p))
one_dups text false false p q = refl

one_span : ReadsSpans → (text : List ℕ) (a b : SpanParts) → SpanText text a → SpanText text b → a ≡ b
one_span reads text a b p q =
    let both : Ok a ≡ Ok b = sym ((reads text a).1 p) ∙ (reads text b).1 q in
    cc

pub same_query : (a b : QueryParts) → a.root ≡ b.root → a.path ≡ b.path → a.form ≡ b.form → a.scope ≡ b.scope → a.span ≡ b.span → a.dups ≡ b.dups → a ≡ b
same_query a b root path form scope span dups =
    let s = subst (λ r. a ≡ record a { root = r }) root refl in
    let t = subst (λ p. a ≡ record a { root = b.root; path = p }) path s in
    let u = subst (λ f. a ≡ record a { root = b.root; path = b.path; form = f }) form t in
    let v = subst (λ c. a ≡ record a { root = b.root; path = b.path; form = b.form; scope = c }) scope u in
    let w = subst (λ n. a ≡ record a { root = b.root; path = b.path; form = b.form; scope = b.scope; span = n }) span v in
    subst (λ d. a ≡ record { root = b.root; path = b.path; form = b.form; scope = b.scope; span = b.span; dups = d }) dups w

pub one_rooted : ReadsWords → (target : List ℕ) (a b : CidParts) (path other : List (List ℕ)) → WordText target a path → WordText target b other → (a ≡ b) × (path ≡ other)
one_rooted words target a b path other p q =
    let both : ◌≡◌ {A = Result Rooted QueryFault} (Ok (a, path)) (Ok (b, other)) = sym ((words target a path).1 p) ∙ (words target b other).1 q in
    let pairs : ◌≡◌ {A = Rooted} (a, path) (b, other) = cc in
    (ap (λ r. r.0) pairs, ap (λ r. r.1) pairs)

-- what words and values ask is one query
pub one_query : ReadsWords → ReadsSpans → (target : List ℕ) (scope bytes dups : Option (List ℕ)) (a b : QueryParts)
    → QueryGiven target scope bytes dups a → QueryGiven target scope bytes dups b → a ≡ b
one_query words spans target scope bytes dups a b p q =
    let pair = one_rooted words target a.root b.root a.path b.path p.word q.word in
    let span = one_given SpanText (one_span spans) bytes a.span b.span p.span_is q.span_is in
    let asked = one_given ScopeText one_scope scope p.asked q.asked p.asked_is q.asked_is in
    let scopes_same : scope_for p.asked a.span ≡ scope_for q.asked b.span = subst (λ s. scope_for p.asked a.span ≡ scope_for q.asked s) span (ap (λ k. scope_for k a.span) asked) in
    let repeats = one_given DupsText one_dups dups p.repeats q.repeats p.repeats_are q.repeats_are in
    same_query a b pair.0 pair.1 (p.form ∙ sym q.form) (p.scope_is ∙ scopes_same ∙ sym q.scope_is) span (p.dups ∙ ap dups_for repeats ∙ sym q.dups)

-- a word that is refused, where what is asked has it
pub refused_word : ReadsWords → (target : List ℕ) (Is : QueryParts → Type 0) (fault : QueryFault) → Gives {A = Rooted} (word_of target) (Err fault)
    → ((query : QueryParts) → Is query → (path : List (List ℕ)) × WordText target query.root path) → Exact Is (Err (fault_of_query fault))
refused_word words target Is fault gives has = record {
  found = tt;
  only = λ query is.
      let word = has query is in
      elim gives [
        | inl refused ↦ let both : Err fault ≡ Ok (query.root, word.0) = refused ∙ (words target query.root word.0).1 word.1 in absurd (cc)
        | inr memory ↦ let same : fault ≡ queries.OutOfMemory = cc in ap fault_of_query same
      ];
}

pub word_refused : ReadsWords → (target : List ℕ) (scope bytes dups : Option (List ℕ)) (fault : QueryFault) → Gives {A = Rooted} (word_of target) (Err fault)
    → Exact (QueryGiven target scope bytes dups) (Err (fault_of_query fault))
word_refused words target scope bytes dups fault gives = refused_word words target (QueryGiven target scope bytes dups) fault gives (λ query is. (query.path, is.word))

-- a word that is taken
pub word_taken : ReadsWords → (target : List ℕ) (root : CidParts) (path : List (List ℕ)) → Gives {A = Rooted} (word_of target) (Ok (root, path)) → WordText target root path
word_taken words target root path gives = elim gives [ inl taken ↦ (words target root path).0 (sym taken) | inr memory ↦ absurd (cc) ]

pub query_found : ReadsWords → ReadsSpans → (target : List ℕ) (scope bytes dups : Option (List ℕ)) (root : CidParts) (path : List (List ℕ)) (asked : Option Scope) (span : Option SpanParts) (repeats : Option Bool)
    (query : QueryParts) → WordText target root path → ValueGives ScopeText scope asked → ValueGives SpanText bytes span → ValueGives DupsText dups repeats
    → query ≡ record { root = root; path = path; form = Car; scope = scope_for asked span; span = span; dups = dups_for repeats } → Exact (QueryGiven target scope bytes dups) (Ok query)
query_found words spans target scope bytes dups root path asked span repeats query word asked_is span_is repeats_are is =
    let given : QueryGiven target scope bytes dups (record { root = root; path = path; form = Car; scope = scope_for asked span; span = span; dups = dups_for repeats }) =
    record { word = word; asked = asked; asked_is = asked_is; span_is = span_is; scope_is = refl; form = refl; repeats = repeats; repeats_are = repeats_are; dups = refl } in
    let found = subst (λ q. QueryGiven target scope bytes dups q) (sym is) given in
    record { found = found; only = λ other also. one_query words spans target scope bytes dups query other found also }

-- whether repeats are sent is what is asked, and else they are
pub dups_else : (repeats : Option Bool) → unwrap_or repeats true ≡ dups_for repeats
dups_else None = refl
dups_else (Some dups) = refl

good_behind : (rest : Option (List ℕ)) (path : List (List ℕ)) → PathBehind rest path → All IsGoodName path
good_behind None path is = subst (λ p. All IsGoodName p) (sym is) (λ k d below. absurd (omega (arith, below)))
good_behind (Some text) path is = is.good

pub good_path : (target : List ℕ) (root : CidParts) (path : List (List ℕ)) → WordText target root path → All IsGoodName path
good_path target root path word = good_behind word.rooted.rest path word.rooted.path_is

-- the same of the values of options
pub query_at : (target : List ℕ) (options : List Given) (scope bytes dups : Option (List ℕ)) (answer : Result QueryParts WordsFault) → scope ≡ value_at options (codes "scope")
    → bytes ≡ value_at options (codes "bytes") → dups ≡ value_at options (codes "dups") → Exact (QueryGiven target scope bytes dups) answer
    → Exact (QueryBy target options) answer
query_at target options scope bytes dups answer scope_is bytes_is dups_is exact =
    subst (λ s. Exact (QueryGiven target s (value_at options (codes "bytes")) (value_at options (codes "dups"))) answer) scope_is
    (subst (λ b. Exact (QueryGiven target scope b (value_at options (codes "dups"))) answer) bytes_is
    (subst (λ d. Exact (QueryGiven target scope bytes d) answer) dups_is exact))

-- the query of a line by that of the values, and the other way
pub asked_by : (target : List ℕ) (options : List Given) (query : QueryParts) → HaveValues options → QueryBy target options query → QueryAsked target options query
asked_by target options query have is = record {
  word = is.word;
  asked = is.asked;
  asked_is = value_gives ScopeText options (codes "scope") is.asked have is.asked_is;
  span_is = value_gives SpanText options (codes "bytes") query.span have is.span_is;
  scope_is = is.scope_is;
  form = is.form;
  repeats = is.repeats;
  repeats_are = value_gives DupsText options (codes "dups") is.repeats have is.repeats_are;
  dups = is.dups;
}

pub given_by : (target : List ℕ) (options : List Given) (query : QueryParts) → StandOnce options → QueryAsked target options query → QueryBy target options query
given_by target options query once is = record {
  word = is.word;
  asked = is.asked;
  asked_is = gives_value ScopeText options (codes "scope") is.asked once is.asked_is;
  span_is = gives_value SpanText options (codes "bytes") query.span once is.span_is;
  scope_is = is.scope_is;
  form = is.form;
  repeats = is.repeats;
  repeats_are = gives_value DupsText options (codes "dups") is.repeats once is.repeats_are;
  dups = is.dups;
}
