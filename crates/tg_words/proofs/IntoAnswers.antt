-- The answers to the lines of `fetch` and `verify` with `--into`.
use Rattle.std.proofs.Common.{◌≡◌, ◌≢◌, ℕ, inl, inr, ◌⊎◌, List, [], ◌∷◌, codes, Ok, Err, Option, Some, None, Bool, true, false, true≢false, refl, sym, ap, ◌∙◌, subst}
use Rattle.std.specs.Prelude.{Contains, Result, ◌||◌}
use Rattle.std.specs.List.{list_all}
use Rattle.std.specs.Str.{bytes_eq}
use Rattle.std.proofs.lemmas.Slice.Eq.{bytes_eq-Decides}
use Rattle.tg_cid.specs.Cid.{CidParts}
use Rattle.tg_model.specs.Queries.{QueryParts}
use Rattle.tg_model.specs.declared.queries.Form.TheVariants.{Car}
use Rattle.tg_model.specs.declared.queries.Scope.TheVariants.{All}
use Rattle.tg_query.specs.Answers.{Gives}
use Rattle.tg_query.specs.WordTexts.{Rooted, WordText, word_of}
use Rattle.tg_query.specs.Requests.{IsAddr}
use Rattle.tg_query.specs.declared.fault.QueryFault.{QueryFault}
use Rattle.tg_words.specs.Words.{Given, StandOnce}
use Rattle.tg_words.specs.IntoLines.{FetchIntoParts, IntoAsked, VerifyIntoParts}
use Rattle.tg_words.specs.Operands.{Exact, FetchIntoGiven, IntoBy, Made, ValueGives, VerifyIntoGiven, fault_of_query, given, givens, is_into, value_at}
use Rattle.tg_words.specs.QueryWords.{DupsText, dups_for}
use Rattle.tg_words.specs.declared.Command.{Command}
use Rattle.tg_words.specs.declared.WordsFault.{WordsFault}
use Rattle.tg_words.specs.declared.WordsFault.TheVariants.{Usage}
use Rattle.tg_words.specs.declared.operands.GivenOption.{GivenOption}
use Rattle.tg_words.proofs.Naming.{at_first, each, later_too}
use Rattle.tg_words.proofs.Options.{HaveValues, gives_value, one_given, value_gives, value_stands, value_where}
use Rattle.tg_words.proofs.Positional.{answer_of}
use Rattle.tg_words.proofs.QueryAnswers.{ReadsWords, one_dups, one_rooted, refused_word, same_query}

-- ---- the query for all below what a word names

-- what a word and options ask is one query
pub one_into : ReadsWords → (target : List ℕ) (options : List Given) (a b : QueryParts) → IntoBy target options a → IntoBy target options b → a ≡ b
one_into words target options a b p q =
    let pair = one_rooted words target a.root b.root a.path b.path p.word q.word in
    let repeats = one_given DupsText one_dups (value_at options (codes "dups")) p.repeats q.repeats p.repeats_are q.repeats_are in
    same_query a b pair.0 pair.1 (p.form ∙ sym q.form) (p.scope_is ∙ sym q.scope_is) (p.span_is ∙ sym q.span_is) (p.dups ∙ ap dups_for repeats ∙ sym q.dups)

-- an option beside the two is refused
pub others_refused : (target : List ℕ) (options : List Given) → list_all is_into options ≡ false → Exact (IntoBy target options) (Err Usage)
others_refused target options fails = record { found = tt; only = λ query is. absurd (true≢false (sym is.others ∙ fails)) }

pub into_refused : ReadsWords → (target : List ℕ) (options : List Given) (fault : QueryFault) → Gives {A = Rooted} (word_of target) (Err fault)
    → Exact (IntoBy target options) (Err (fault_of_query fault))
into_refused words target options fault gives = refused_word words target (IntoBy target options) fault gives (λ query is. (query.path, is.word))

-- what is written by `--dups` is refused
pub dups_refused : (target : List ℕ) (options : List Given) (value : Option (List ℕ)) (fault : WordsFault) → value ≡ value_at options (codes "dups")
    → Exact (ValueGives DupsText value) (Err fault) → Exact (IntoBy target options) (Err fault)
dups_refused target options value fault is exact = record {
  found = tt;
  only = λ query by. exact.only by.repeats (subst (λ v. ValueGives DupsText v by.repeats) (sym is) by.repeats_are);
}

pub into_found : ReadsWords → (target : List ℕ) (options : List Given) (root : CidParts) (path : List (List ℕ)) (value : Option (List ℕ)) (repeats : Option Bool) (query : QueryParts)
    → list_all is_into options ≡ true → WordText target root path → value ≡ value_at options (codes "dups") → ValueGives DupsText value repeats
    → query ≡ record { root = root; path = path; form = Car; scope = All; span = None; dups = dups_for repeats } → Exact (IntoBy target options) (Ok query)
into_found words target options root path value repeats query others word value_is repeats_are is =
    let by : IntoBy target options (record { root = root; path = path; form = Car; scope = All; span = None; dups = dups_for repeats }) =
    record {
      others = others;
      word = word;
      form = refl;
      scope_is = refl;
      span_is = refl;
      repeats = repeats;
      repeats_are = subst (λ v. ValueGives DupsText v repeats) value_is repeats_are;
      dups = refl;
    } in
    let found = subst (λ q. IntoBy target options q) (sym is) by in
    record { found = found; only = λ other also. one_into words target options query other found also }

-- ---- the folder, and the gateway's address

same_verify_into : (a b : VerifyIntoParts) → a.query ≡ b.query → a.folder ≡ b.folder → a ≡ b
same_verify_into a b query folder =
    let s = subst (λ q. a ≡ record a { query = q }) query refl in
    subst (λ f. a ≡ record { query = b.query; folder = f }) folder s

same_fetch_into : (a b : FetchIntoParts) → a.addr ≡ b.addr → a.query ≡ b.query → a.folder ≡ b.folder → a ≡ b
same_fetch_into a b addr query folder =
    let s = subst (λ d. a ≡ record a { addr = d }) addr refl in
    let t = subst (λ q. a ≡ record a { addr = b.addr; query = q }) query s in
    subst (λ f. a ≡ record { addr = b.addr; query = b.query; folder = f }) folder t

pub verify_into_found : (target folder : List ℕ) (options : List Given) (parts : VerifyIntoParts) → parts.folder ≡ folder → folder ≢ []
    → Exact (IntoBy target options) (Ok parts.query) → Exact (VerifyIntoGiven target folder options) (Ok parts)
verify_into_found target folder options parts folder_is named exact = record {
  found = record { folder_is = folder_is; named = named; query = exact.found };
  only = λ other is. same_verify_into parts other (exact.only other.query is.query) (folder_is ∙ sym is.folder_is);
}

pub fetch_into_found : (addr target folder : List ℕ) (options : List Given) (parts : FetchIntoParts) → parts.addr ≡ addr → IsAddr addr → parts.folder ≡ folder → folder ≢ []
    → Exact (IntoBy target options) (Ok parts.query) → Exact (FetchIntoGiven addr target folder options) (Ok parts)
fetch_into_found addr target folder options parts addr_is is_addr folder_is named exact = record {
  found = record { addr_is = addr_is; is_addr = is_addr; folder_is = folder_is; named = named; query = exact.found };
  only = λ other is. same_fetch_into parts other (addr_is ∙ sym is.addr_is) (exact.only other.query is.query) (folder_is ∙ sym is.folder_is);
}

-- what words and options ask is one
abbrev pub OneInto : Type 0
OneInto = (target : List ℕ) (options : List Given) (a b : QueryParts) → IntoBy target options a → IntoBy target options b → a ≡ b

pub one_verify_into : OneInto → (target folder : List ℕ) (options : List Given) (a b : VerifyIntoParts) → VerifyIntoGiven target folder options a
    → VerifyIntoGiven target folder options b → a ≡ b
one_verify_into one target folder options a b p q = same_verify_into a b (one target options a.query b.query p.query q.query) (p.folder_is ∙ sym q.folder_is)

pub one_fetch_into : OneInto → (addr target folder : List ℕ) (options : List Given) (a b : FetchIntoParts) → FetchIntoGiven addr target folder options a
    → FetchIntoGiven addr target folder options b → a ≡ b
one_fetch_into one addr target folder options a b p q =
    same_fetch_into a b (p.addr_is ∙ sym q.addr_is) (one target options a.query b.query p.query q.query) (p.folder_is ∙ sym q.folder_is)

-- ---- an answer that is made into a command

pub made : {Parts : Type 0} (make : Parts → Command) (Is : Parts → Type 0) (answer : Result Parts WordsFault) → Exact Is answer → Exact (Made make Is) (answer_of make answer)
made make Is (Err e) exact = record { found = tt; only = λ command is. exact.only is.0 is.2 }
made make Is (Ok parts) exact = record {
  found = (parts, refl, exact.found);
  only = λ command is. ap make (exact.only is.0 is.2) ∙ sym is.1;
}

pub one_made : {Parts : Type 0} (make : Parts → Command) (Is : Parts → Type 0) (a b : Command) → ((x y : Parts) → Is x → Is y → x ≡ y) → Made make Is a → Made make Is b → a ≡ b
one_made make Is a b one p q = p.1 ∙ ap make (one p.0 q.0 p.2 q.2) ∙ sym q.1

-- ---- the options of a line

pub all_given : (options : List GivenOption) → list_all (λ o. is_into (given o)) options ≡ list_all is_into (givens options)
all_given [] = refl
all_given (o ∷ options) = rw (all_given options) refl

either_holds : (a b : Bool) → (a || b) ≡ true → (a ≡ true) ⊎ (b ≡ true)
either_holds true b holds = inl refl
either_holds false b holds = inr holds

pub into_or_dups : (options : List Given) → list_all is_into options ≡ true → (o : Given) → Contains options o → (o.0 ≡ codes "into") ⊎ (o.0 ≡ codes "dups")
into_or_dups options all o among = elim (either_holds (bytes_eq o.0 (codes "into")) (bytes_eq o.0 (codes "dups")) (each is_into options o all among)) [
  | inl is ↦ inl ((bytes_eq-Decides o.0 (codes "into")).0 is)
  | inr is ↦ inr ((bytes_eq-Decides o.0 (codes "dups")).0 is)
]

is_one : (name : List ℕ) (value : Option (List ℕ)) → (name ≡ codes "into") ⊎ (name ≡ codes "dups") → is_into (name, value) ≡ true
is_one name value (inl is) = subst (λ (n : List ℕ). is_into (n, value) ≡ true) (sym is) refl
is_one name value (inr is) = subst (λ (n : List ℕ). is_into (n, value) ≡ true) (sym is) refl

all_into : (options : List Given) → ((o : Given) → Contains options o → (o.0 ≡ codes "into") ⊎ (o.0 ≡ codes "dups")) → list_all is_into options ≡ true
all_into [] either = refl
all_into (o ∷ options) either =
    rw (is_one o.0 o.1 (either o (at_first o o options refl))) (all_into options (λ p among. either p (later_too o p options among)))

-- what a line's options ask by what they are, and the other way
pub into_asked : (target folder : List ℕ) (options : List Given) (query : QueryParts) → HaveValues options → value_at options (codes "into") ≡ Some folder → folder ≢ []
    → IntoBy target options query → IntoAsked target options folder query
into_asked target folder options query have stands named is = record {
  into = value_stands options (codes "into") folder stands;
  named = named;
  others = into_or_dups options is.others;
  word = is.word;
  form = is.form;
  scope_is = is.scope_is;
  span_is = is.span_is;
  repeats = is.repeats;
  repeats_are = value_gives DupsText options (codes "dups") is.repeats have is.repeats_are;
  dups = is.dups;
}

pub into_given : (target folder : List ℕ) (options : List Given) (query : QueryParts) → StandOnce options → IntoAsked target options folder query → IntoBy target options query
into_given target folder options query once is = record {
  others = all_into options is.others;
  word = is.word;
  form = is.form;
  scope_is = is.scope_is;
  span_is = is.span_is;
  repeats = is.repeats;
  repeats_are = gives_value DupsText options (codes "dups") is.repeats once is.repeats_are;
  dups = is.dups;
}

pub folder_at : (target folder : List ℕ) (options : List Given) (query : QueryParts) → StandOnce options → IntoAsked target options folder query
    → value_at options (codes "into") ≡ Some folder
folder_at target folder options query once is = value_where options (codes "into") folder once is.into
