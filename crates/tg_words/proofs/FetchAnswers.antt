-- The answers to the lines of `fetch`.
use Rattle.std.proofs.Common.{◌≡◌, ◌≢◌, ℕ, ◌≤◌, inl, inr, ◌⊎◌, List, [], ◌∷◌, length, codes, Ok, Err, Option, Some, None, Bool, true, false, true≢false, refl, sym, ap, ◌∙◌, subst, arith}
use Rattle.std.specs.Prelude.{Contains, Result, ◌==◌}
use Rattle.std.specs.List.{list_all, list_any}
use Rattle.std.proofs.lemmas.Bool.Decides.{nat_tests}
use Rattle.std.proofs.lemmas.Slice.Eq.{bytes_eq-Decides}
use Rattle.tg_bytes.specs.Lists.{none_in, other_bytes}
use Rattle.tg_cid.specs.Cid.{CidParts}
use Rattle.tg_model.specs.Queries.{QueryParts}
use Rattle.tg_model.specs.declared.queries.Form.TheVariants.{Raw}
use Rattle.tg_model.specs.declared.queries.Scope.TheVariants.{Block}
use Rattle.tg_query.specs.Answers.{Gives}
use Rattle.tg_query.specs.WordTexts.{Rooted, WordText, word_of}
use Rattle.tg_query.specs.declared.fault.QueryFault.{QueryFault}
use Rattle.tg_query.specs.Requests.{IsAddr}
use Rattle.tg_words.specs.Words.{Given, StandOnce, WordsSpelling}
use Rattle.tg_words.specs.CommandLine.{OperandLine}
use Rattle.tg_words.specs.FetchLines.{FetchAsked, FetchParts, fetch_names}
use Rattle.tg_words.specs.IntoLines.{FetchIntoParts, IntoAsked}
use Rattle.tg_words.specs.Operands.{Exact, FetchAskedBy, FetchAsks, FetchAsksBy, FetchBy, FetchGiven, FetchIntoGiven, QueryBy, RawGiven, fault_of_query, given, givens, is_into, is_raw, value_at}
use Rattle.tg_words.specs.declared.Command.{Command}
use Rattle.tg_words.specs.declared.Command.TheVariants.{Fetch, FetchInto}
use Rattle.tg_words.specs.declared.WordsFault.{WordsFault}
use Rattle.tg_words.specs.declared.WordsFault.TheVariants.{Usage}
use Rattle.tg_words.specs.declared.operands.GivenOption.{GivenOption}
use Rattle.tg_words.proofs.Known.{AreKnown, known}
use Rattle.tg_words.proofs.Naming.{among_passes, at_first, first_or_later, later_too}
use Rattle.tg_words.proofs.IntoAnswers.{OneInto, folder_at, into_asked, into_given, into_or_dups, one_fetch_into, one_made}
use Rattle.tg_words.proofs.Options.{HaveValues, none_stands, value_absent}
use Rattle.tg_words.proofs.Positional.{Form, IsOf, the_line, two_words}
use Rattle.tg_words.proofs.QueryAnswers.{ReadsWords, asked_by, given_by, one_rooted, refused_word}

abbrev pub fetch_form : Form (List ℕ × List ℕ) Command
fetch_form = record { name = codes "fetch"; names = fetch_names; writing = two_words; make = λ command. command; asks = λ pair. FetchAsks pair.0 pair.1 }

-- ---- the query for the block of a root

abbrev raw_for : CidParts → QueryParts
raw_for root = record { root = root; path = []; form = Raw; scope = Block; span = None; dups = true }

-- what a word and options ask is one query
pub one_raw : ReadsWords → (target : List ℕ) (options : List Given) (a b : QueryParts) → RawGiven target options a → RawGiven target options b → a ≡ b
one_raw words target options a b p q = p.query_is ∙ ap raw_for (one_rooted words target a.root b.root [] [] p.word q.word).0 ∙ sym q.query_is

pub raw_refused : ReadsWords → (target : List ℕ) (options : List Given) (fault : QueryFault) → Gives {A = Rooted} (word_of target) (Err fault)
    → Exact (RawGiven target options) (Err (fault_of_query fault))
raw_refused words target options fault gives = refused_word words target (RawGiven target options) fault gives (λ query is. ([], is.word))

pub path_refused : ReadsWords → (target : List ℕ) (options : List Given) (root : CidParts) (path : List (List ℕ)) → WordText target root path → path ≢ []
    → Exact (RawGiven target options) (Err Usage)
path_refused words target options root path word some = record {
  found = tt;
  only = λ query is. absurd (some (one_rooted words target root query.root path [] word is.word).1);
}

pub not_empty : (path : List (List ℕ)) (empty : Bool) → empty ≡ (length path == 0) → empty ≡ false → path ≢ []
not_empty path empty is fails none = true≢false (sym (ap (λ (p : List (List ℕ)). length p == 0) none) ∙ sym is ∙ fails)

pub is_empty : (path : List (List ℕ)) (empty : Bool) → empty ≡ (length path == 0) → empty ≡ true → path ≡ []
is_empty [] empty is holds = refl
is_empty (name ∷ path) empty is holds = absurd (grind (arith, nat_tests))

pub raw_found : ReadsWords → (target : List ℕ) (options : List Given) (root : CidParts) (path : List (List ℕ)) (query : QueryParts) → length options ≤ 1
    → WordText target root path → path ≡ [] → query ≡ raw_for root → Exact (RawGiven target options) (Ok query)
raw_found words target options root path query few word none is =
    let given : RawGiven target options (raw_for root) = record { few = few; word = subst (WordText target root) none word; query_is = refl } in
    let found = subst (λ q. RawGiven target options q) (sym is) given in
    record { found = found; only = λ other also. one_raw words target options query other found also }

-- ---- what words and options ask

pub any_given : (options : List GivenOption) → list_any (λ o. is_raw (given o)) options ≡ list_any is_raw (givens options)
any_given [] = refl
any_given (o ∷ options) = rw (any_given options) refl

pub asked_where : (target : List ℕ) (options : List Given) (test : Bool) (answer : Result QueryParts WordsFault) → list_any is_raw options ≡ test
    → Exact (FetchAskedBy test target options) answer → Exact (FetchBy target options) answer
asked_where target options test answer is exact = subst (λ t. Exact (FetchAskedBy t target options) answer) (sym is) exact

one_asked : ((target : List ℕ) (options : List Given) (a b : QueryParts) → RawGiven target options a → RawGiven target options b → a ≡ b)
    → ((target : List ℕ) (options : List Given) (a b : QueryParts) → QueryBy target options a → QueryBy target options b → a ≡ b)
    → (test : Bool) (target : List ℕ) (options : List Given) (a b : QueryParts) → FetchAskedBy test target options a → FetchAskedBy test target options b → a ≡ b
one_asked raw query true target options a b p q = raw target options a b p q
one_asked raw query false target options a b p q = query target options a b p q

same_fetch : (a b : FetchParts) → a.addr ≡ b.addr → a.query ≡ b.query → a ≡ b
same_fetch a b addr query =
    let s = subst (λ p. a ≡ record a { addr = p }) addr refl in
    subst (λ q. a ≡ record { addr = b.addr; query = q }) query s

one_written : ((target : List ℕ) (options : List Given) (a b : QueryParts) → RawGiven target options a → RawGiven target options b → a ≡ b)
    → ((target : List ℕ) (options : List Given) (a b : QueryParts) → QueryBy target options a → QueryBy target options b → a ≡ b)
    → (pair : List ℕ × List ℕ) (options : List Given) (a b : FetchParts) → FetchGiven pair.0 pair.1 options a → FetchGiven pair.0 pair.1 options b → a ≡ b
one_written raw query pair options a b p q =
    same_fetch a b (p.addr_is ∙ sym q.addr_is) (one_asked raw query (list_any is_raw options) pair.1 options a.query b.query p.query q.query)

pub fetch_where : (addr target : List ℕ) (options : List Given) (folder : Option (List ℕ)) (answer : Result Command WordsFault) → folder ≡ value_at options (codes "into")
    → Exact (FetchAsksBy folder addr target options) answer → Exact (FetchAsks addr target options) answer
fetch_where addr target options folder answer is exact = subst (λ f. Exact (FetchAsksBy f addr target options) answer) is exact

-- what isn't an address is asked nothing of
pub addr_refused : (addr target : List ℕ) (options : List Given) → (IsAddr addr → ⊥) → Exact (FetchAsks addr target options) (Err Usage)
addr_refused addr target options isnt = go (value_at options (codes "into")) refl
  where
    go : (folder : Option (List ℕ)) → folder ≡ value_at options (codes "into") → Exact (FetchAsks addr target options) (Err Usage)
    go None is = fetch_where addr target options None (Err Usage) is (record { found = tt; only = λ command by. absurd (isnt by.2.is_addr) })
    go (Some folder) is = fetch_where addr target options (Some folder) (Err Usage) is (record { found = tt; only = λ command by. absurd (isnt by.2.is_addr) })

pub one_fetch : ((target : List ℕ) (options : List Given) (a b : QueryParts) → RawGiven target options a → RawGiven target options b → a ≡ b)
    → ((target : List ℕ) (options : List Given) (a b : QueryParts) → QueryBy target options a → QueryBy target options b → a ≡ b)
    → OneInto → (pair : List ℕ × List ℕ) (options : List Given) (a b : Command) → FetchAsks pair.0 pair.1 options a → FetchAsks pair.0 pair.1 options b → a ≡ b
one_fetch raw query into pair options a b p q = go (value_at options (codes "into")) p q
  where
    go : (folder : Option (List ℕ)) → FetchAsksBy folder pair.0 pair.1 options a → FetchAsksBy folder pair.0 pair.1 options b → a ≡ b
    go None p q = one_made Fetch (FetchGiven pair.0 pair.1 options) a b (one_written raw query pair options) p q
    go (Some folder) p q = one_made FetchInto (FetchIntoGiven pair.0 pair.1 folder options) a b (one_fetch_into into pair.0 pair.1 folder options) p q

-- ---- a line by its operands, and the operands of a line

none_raw : (options : List Given) → list_any is_raw options ≡ false → (o : Given) → Contains options o → o.0 ≢ codes "raw"
none_raw options none o among equal = true≢false (sym (among_passes is_raw options o among ((bytes_eq-Decides o.0 (codes "raw")).1 equal)) ∙ none)

raw_none : (options : List Given) → ((o : Given) → Contains options o → o.0 ≢ codes "raw") → list_any is_raw options ≡ false
raw_none [] none = refl
raw_none (o ∷ options) none =
    rw (other_bytes o.0 (codes "raw") (none o (at_first o o options refl))) (raw_none options (λ p among. none p (later_too o p options among)))

-- an option with a value isn't `--raw`
not_valued : (name value : List ℕ) → Contains fetch_names.valued name → list_any is_raw ((name, Some value) ∷ []) ≡ false
not_valued name value among =
    let at : (n : List ℕ) → n ≡ name → list_any is_raw ((n, Some value) ∷ []) ≡ false → list_any is_raw ((name, Some value) ∷ []) ≡ false =
    λ n is fails. subst (λ (m : List ℕ). list_any is_raw ((m, Some value) ∷ []) ≡ false) is fails in
    elim (first_or_later (codes "scope") name (codes "bytes" ∷ codes "dups" ∷ codes "into" ∷ []) among) [
      | inl is ↦ at (codes "scope") is refl
      | inr later ↦ elim (first_or_later (codes "bytes") name (codes "dups" ∷ codes "into" ∷ []) later) [
        | inl is ↦ at (codes "bytes") is refl
        | inr behind ↦ elim (first_or_later (codes "dups") name (codes "into" ∷ []) behind) [
          | inl is ↦ at (codes "dups") is refl
          | inr last ↦ elim (first_or_later (codes "into") name [] last) [ inl is ↦ at (codes "into") is refl | inr none ↦ absurd (none_in name none) ]
        ]
      ]
    ]

is_flag : (name : List ℕ) → Contains fetch_names.flags name → codes "raw" ≡ name
is_flag name among = elim (first_or_later (codes "raw") name [] among) [ inl is ↦ is | inr later ↦ absurd (none_in name later) ]

raw_alone : (options : List Given) → length options ≤ 1 → list_any is_raw options ≡ true → AreKnown fetch_names options → options ≡ (codes "raw", None) ∷ []
raw_alone [] few stands known = absurd (true≢false (sym stands))
raw_alone ((name, None) ∷ []) few stands known =
    ap (λ (n : List ℕ). (n, None) ∷ []) (sym (is_flag name (known (name, None) (at_first (name, None) (name, None) [] refl))))
raw_alone ((name, Some value) ∷ []) few stands known =
    absurd (true≢false (sym stands ∙ not_valued name value (known (name, Some value) (at_first (name, Some value) (name, Some value) [] refl))))
raw_alone (o ∷ other ∷ options) few stands known = absurd (omega (arith, few))

have_all : (options : List Given) → AreKnown fetch_names options → ((o : Given) → Contains options o → o.0 ≢ codes "raw") → HaveValues options
have_all options known none (name, Some value) among is = absurd (cc)
have_all options known none (name, None) among is = absurd (none (name, None) among (sym (is_flag name (known (name, None) among))))

fetch_asked : (target : List ℕ) (options : List Given) (query : QueryParts) → AreKnown fetch_names options → value_at options (codes "into") ≡ None
    → FetchBy target options query → FetchAsked target options query
fetch_asked target options query known no_folder is = go (list_any is_raw options) refl is
  where
    go : (test : Bool) → list_any is_raw options ≡ test → FetchAskedBy test target options query → FetchAsked target options query
    go true stands raw = inl (record { alone = raw_alone options raw.few stands known; word = raw.word; query_is = raw.query_is })
    go false stands car =
        let none = none_raw options stands in
        let have = have_all options known none in
        inr (record { none = none; no_folder = none_stands options (codes "into") have no_folder; asked = asked_by target options query have car })

fetch_given : (target : List ℕ) (options : List Given) (query : QueryParts) → StandOnce options → FetchAsked target options query → FetchBy target options query
fetch_given target options query once asked = elim asked [
  | inl raw ↦
      let alone : FetchBy target ((codes "raw", None) ∷ []) query = record { few = omega arith; word = raw.word; query_is = raw.query_is } in
      subst (λ o. FetchBy target o query) (sym raw.alone) alone
  | inr car ↦ subst (λ t. FetchAskedBy t target options query) (sym (raw_none options car.none)) (given_by target options query once car.asked)
]

-- no folder is named beside what a line without `--into` asks
no_folder_at : (target : List ℕ) (options : List Given) (query : QueryParts) → FetchAsked target options query → value_at options (codes "into") ≡ None
no_folder_at target options query asked = elim asked [
  | inl raw ↦ let alone : value_at ((codes "raw", None) ∷ []) (codes "into") ≡ None = refl in subst (λ o. value_at o (codes "into") ≡ None) (sym raw.alone) alone
  | inr car ↦ value_absent options (codes "into") car.no_folder
]

-- `--into` and `--dups` have values
into_or_raw : (name : List ℕ) → name ≡ codes "raw" → (name ≡ codes "into") ⊎ (name ≡ codes "dups") → ⊥
into_or_raw name raw either = elim either [
  | inl is ↦ let both : codes "raw" ≡ codes "into" = sym raw ∙ is in absurd (cc)
  | inr is ↦ let both : codes "raw" ≡ codes "dups" = sym raw ∙ is in absurd (cc)
]

have_into : (options : List Given) → AreKnown fetch_names options → list_all is_into options ≡ true → HaveValues options
have_into options known all = have_all options known (λ o among raw. into_or_raw o.0 raw (into_or_dups options all o among))

fetch_written : (rest : List (List ℕ)) (pair : List ℕ × List ℕ) (options : List Given) (parts : FetchParts) → WordsSpelling fetch_names rest (two_words.texts pair) options
    → value_at options (codes "into") ≡ None → FetchGiven pair.0 pair.1 options parts → OperandLine (codes "fetch" ∷ rest) (Fetch parts)
fetch_written rest pair options parts operands none is = record {
  target = pair.1;
  options = options;
  line = record {
    rest = rest;
    begins = refl;
    operands = subst (λ a. WordsSpelling fetch_names rest (a ∷ pair.1 ∷ []) options) (sym is.addr_is) operands;
  };
  addr = subst IsAddr (sym is.addr_is) is.is_addr;
  asked = fetch_asked pair.1 options parts.query (known fetch_names rest (two_words.texts pair) options operands) none is.query;
}

fetch_folder : (rest : List (List ℕ)) (pair : List ℕ × List ℕ) (folder : List ℕ) (options : List Given) (parts : FetchIntoParts)
    → WordsSpelling fetch_names rest (two_words.texts pair) options → value_at options (codes "into") ≡ Some folder → FetchIntoGiven pair.0 pair.1 folder options parts
    → OperandLine (codes "fetch" ∷ rest) (FetchInto parts)
fetch_folder rest pair folder options parts operands stands is =
    let have = have_into options (known fetch_names rest (two_words.texts pair) options operands) is.query.others in
    let asked = into_asked pair.1 folder options parts.query have stands is.named is.query in
    record {
      target = pair.1;
      options = options;
      line = record {
        rest = rest;
        begins = refl;
        operands = subst (λ a. WordsSpelling fetch_names rest (a ∷ pair.1 ∷ []) options) (sym is.addr_is) operands;
      };
      addr = subst IsAddr (sym is.addr_is) is.is_addr;
      asked = subst (λ f. IntoAsked pair.1 options f parts.query) (sym is.folder_is) asked;
    }

pub fetch_by : (rest : List (List ℕ)) (pair : List ℕ × List ℕ) (options : List Given) (command : Command) → WordsSpelling fetch_names rest (two_words.texts pair) options
    → FetchAsks pair.0 pair.1 options command → OperandLine (codes "fetch" ∷ rest) command
fetch_by rest pair options command operands is = go (value_at options (codes "into")) refl is
  where
    go : (folder : Option (List ℕ)) → value_at options (codes "into") ≡ folder → FetchAsksBy folder pair.0 pair.1 options command → OperandLine (codes "fetch" ∷ rest) command
    go None none by = subst (OperandLine (codes "fetch" ∷ rest)) (sym by.1) (fetch_written rest pair options by.0 operands none by.2)
    go (Some folder) stands by = subst (OperandLine (codes "fetch" ∷ rest)) (sym by.1) (fetch_folder rest pair folder options by.0 operands stands by.2)

pub fetch_line : (rest : List (List ℕ)) (parts : FetchParts) → OperandLine (codes "fetch" ∷ rest) (Fetch parts) → IsOf fetch_form rest (Fetch parts)
fetch_line rest parts line =
    let operands = the_line (codes "fetch") fetch_names rest (parts.addr ∷ line.target ∷ []) line.options line.line in
    let given : FetchGiven parts.addr line.target line.options parts =
    record { addr_is = refl; is_addr = line.addr; query = fetch_given line.target line.options parts.query operands.once line.asked } in
    record {
      parts = Fetch parts;
      words = (parts.addr, line.target);
      options = line.options;
      is = refl;
      operands = operands;
      asked = subst (λ f. FetchAsksBy f parts.addr line.target line.options (Fetch parts)) (sym (no_folder_at line.target line.options parts.query line.asked)) (parts, refl, given);
    }

pub fetch_into_line : (rest : List (List ℕ)) (parts : FetchIntoParts) → OperandLine (codes "fetch" ∷ rest) (FetchInto parts) → IsOf fetch_form rest (FetchInto parts)
fetch_into_line rest parts line =
    let operands = the_line (codes "fetch") fetch_names rest (parts.addr ∷ line.target ∷ []) line.options line.line in
    let given : FetchIntoGiven parts.addr line.target parts.folder line.options parts =
    record {
      addr_is = refl;
      is_addr = line.addr;
      folder_is = refl;
      named = line.asked.named;
      query = into_given line.target parts.folder line.options parts.query operands.once line.asked;
    } in
    record {
      parts = FetchInto parts;
      words = (parts.addr, line.target);
      options = line.options;
      is = refl;
      operands = operands;
      asked = subst (λ f. FetchAsksBy f parts.addr line.target line.options (FetchInto parts)) (sym (folder_at line.target parts.folder line.options parts.query operands.once line.asked))
          (parts, refl, given);
    }
