-- The answers to the lines of each command, and that words spell at most one.
use Rattle.std.proofs.Common.{◌≡◌, ℕ, ◌⊎◌, inl, inr, List, [], ◌∷◌, ◌++◌, length, codes, Ok, Err, Option, Some, None, Bool, Bor, true, false, refl, sym, ap, ◌∙◌, subst, arith}
use Rattle.std.specs.Prelude.{Contains, Result, IfOk, option_map, ◌==◌}
use Rattle.std.proofs.lemmas.Bool.Decides.{nat_tests}
use Rattle.std.specs.Str.{bytes_eq}
use Rattle.hex.specs.Hex.{decode_of}
use Rattle.tg_cid.specs.Cid.{CidParts}
use Rattle.tg_cid.specs.Spelling.{CidText, CidBytes}
use Rattle.tg_bytes.specs.Lists.{none_in, same_only}
use Rattle.tg_words.specs.Words.{Given, StandOnce, WordsSpelling}
use Rattle.tg_words.specs.AuditLines.{audit_names}
use Rattle.tg_words.specs.CommandLine.{OperandLine, CidHexLine, CidLine, OneCidLine, no_names, cid_names}
use Rattle.tg_model.specs.Queries.{QueryParts}
use Rattle.tg_words.specs.FetchLines.{fetch_names}
use Rattle.tg_words.specs.ImportLines.{import_names}
use Rattle.tg_words.specs.MirrorLines.{mirror_names}
use Rattle.tg_words.specs.QueryWords.{query_names}
use Rattle.tg_words.specs.ServeLines.{serve_names}
use Rattle.tg_words.specs.SwarmLines.{swarm_names}
use Rattle.tg_words.specs.VerifyLines.{verify_names}
use Rattle.tg_words.specs.Operands.{Answers, Exact, OneCid, QueryBy, RawGiven, givens, texts_of, value_at}
use Rattle.tg_words.specs.declared.Command.{Command}
use Rattle.tg_words.specs.declared.Command.TheVariants.{Check, Node, CidToHex, CidToText, Export, Import, Verify, VerifyInto, Serve, Fetch, FetchInto, Mirror, Swarm, Audit, Help, Version}
use Rattle.tg_words.specs.declared.WordsFault.{WordsFault}
use Rattle.tg_words.specs.declared.WordsFault.TheVariants.{Usage, OutOfMemory}
use Rattle.tg_words.specs.declared.operands.GivenOption.{GivenOption}
use Rattle.tg_words.proofs.Readings.{one_spelling_of_words}
use Rattle.tg_words.proofs.Positional.{IsOf, Lines, answer_of, exact_answer, one_of_form, the_line}
use Rattle.tg_words.proofs.AuditAnswers.{audit_by, audit_form, audit_line, one_audit}
use Rattle.tg_words.proofs.ExportAnswers.{export_by, export_form, export_line, one_export}
use Rattle.tg_words.proofs.FetchAnswers.{fetch_by, fetch_form, fetch_into_line, fetch_line, one_fetch}
use Rattle.tg_words.proofs.IntoAnswers.{OneInto}
use Rattle.tg_words.proofs.ImportAnswers.{import_by, import_form, import_line, one_import}
use Rattle.tg_words.proofs.MirrorAnswers.{mirror_by, mirror_form, mirror_line, one_mirror}
use Rattle.tg_words.proofs.ServeAnswers.{one_serve, serve_by, serve_form, serve_line}
use Rattle.tg_words.proofs.SwarmAnswers.{one_swarm, swarm_by, swarm_form, swarm_line}
use Rattle.tg_words.proofs.VerifyAnswers.{one_verify, verify_by, verify_form, verify_into_line, verify_line}
use Rattle.tg_words.proofs.Known.{AreKnown, known, no_options}
use Rattle.tg_words.proofs.Naming.{are_by, at_first, later_too, first_or_later}

-- `check` and `node`
abbrev pub IsOneCid : (CidParts → Command) → List (List ℕ) → Command → Type 0
IsOneCid make rest command = (cid : CidParts) × (command ≡ make cid) × OneCid rest cid

one_cid_of : (name : List ℕ) (make : CidParts → Command) (rest : List (List ℕ)) (cid : CidParts) → OneCidLine name (name ∷ rest) cid → IsOneCid make rest (make cid)
one_cid_of name make rest cid line =
    (cid, refl, record { text = line.text; operands = the_line name no_names rest (line.text ∷ []) [] line.line; text_is = line.text_is })

-- `cid`
abbrev pub hex_option : List ℕ → Given
hex_option digits = (codes "hex", Some digits)

-- the options are those that the value of `--hex` tells
abbrev pub HexIs : Option (List ℕ) → List Given → Type 0
HexIs None options = options ≡ []
HexIs (Some digits) options = options ≡ hex_option digits ∷ []

is_hex : (name : List ℕ) → Contains cid_names.valued name → codes "hex" ≡ name
is_hex name among = elim (first_or_later (codes "hex") name [] among) [ inl is ↦ is | inr later ↦ absurd (none_in name later) ]

hex_alone : (options : List Given) → StandOnce options → AreKnown cid_names options → HexIs (value_at options (codes "hex")) options
hex_alone [] once known = refl
hex_alone ((name, None) ∷ options) once known = absurd (none_in name (known (name, None) (at_first (name, None) (name, None) options refl)))
hex_alone ((name, Some value) ∷ []) once known =
    let is = is_hex name (known (name, Some value) (at_first (name, Some value) (name, Some value) [] refl)) in
    subst (λ (n : List ℕ). HexIs (value_at ((n, Some value) ∷ []) (codes "hex")) ((n, Some value) ∷ [])) is refl
hex_alone ((name, Some value) ∷ (other, None) ∷ options) once known =
    absurd (none_in other (known (other, None) (later_too (name, Some value) (other, None) ((other, None) ∷ options) (at_first (other, None) (other, None) options refl))))
hex_alone ((name, Some value) ∷ (other, Some second) ∷ options) once known =
    let is = is_hex name (known (name, Some value) (at_first (name, Some value) (name, Some value) ((other, Some second) ∷ options) refl)) in
    let also = is_hex other (known (other, Some second) (later_too (name, Some value) (other, Some second) ((other, Some second) ∷ options) (at_first (other, Some second) (other, Some second) options refl))) in
    absurd (once 0 1 (name, Some value) (other, Some second) (omega arith) refl refl (sym is ∙ also))

pub hex_is : (words texts : List (List ℕ)) (options seen : List GivenOption) (result value : Option (Bor (List ℕ))) → WordsSpelling cid_names words texts (givens options)
    → result ≡ value → option_map (λ v. v.now) result ≡ value_at (givens seen) (codes "hex") → seen ≡ options → HexIs (option_map (λ v. v.now) value) (givens options)
hex_is words texts options seen result value s is gives same =
    let here : option_map (λ v. v.now) value ≡ value_at (givens options) (codes "hex") = sym (ap (option_map (λ v. v.now)) is) ∙ gives ∙ ap (λ xs. value_at (givens xs) (codes "hex")) same in
    subst (λ v. HexIs v (givens options)) (sym here) (hex_alone (givens options) s.once (known cid_names words texts (givens options) s))

abbrev pub IsToHex : List (List ℕ) → Command → Type 0
IsToHex rest command = (cid : CidParts) × (text : List ℕ) × (command ≡ CidToHex cid) × WordsSpelling cid_names rest (text ∷ []) [] × CidText cid text

abbrev pub IsToText : List (List ℕ) → Command → Type 0
IsToText rest command = (cid : CidParts) × (digits : List ℕ) × (bytes : List ℕ) × (command ≡ CidToText cid)
    × WordsSpelling cid_names rest [] (hex_option digits ∷ []) × (decode_of digits ≡ Ok bytes) × CidBytes cid bytes

to_hex_of : (rest : List (List ℕ)) (cid : CidParts) → CidLine (codes "cid" ∷ rest) cid → IsToHex rest (CidToHex cid)
to_hex_of rest cid line = (cid, line.text, refl, the_line (codes "cid") cid_names rest (line.text ∷ []) [] line.line, line.text_is)

to_text_of : (rest : List (List ℕ)) (cid : CidParts) → CidHexLine (codes "cid" ∷ rest) cid → IsToText rest (CidToText cid)
to_text_of rest cid line =
    (cid, line.digits, line.bytes, refl, the_line (codes "cid") cid_names rest [] (hex_option line.digits ∷ []) line.line, line.digits_are, line.bytes_are)

-- what a line asks, by the command's name
abbrev pub Where : Bool → Type 0 → Type 0 → Type 0
Where true Here Else = Here
Where false Here Else = Else

abbrev pub IsAsked : List ℕ → List (List ℕ) → Command → Type 0
IsAsked name rest command =
    Where (bytes_eq name (codes "check")) (IsOneCid Check rest command)
    (Where (bytes_eq name (codes "node")) (IsOneCid Node rest command)
    (Where (bytes_eq name (codes "cid")) (IsToHex rest command ⊎ IsToText rest command)
    (Where (bytes_eq name (codes "export")) (IsOf export_form rest command)
    (Where (bytes_eq name (codes "import")) (IsOf import_form rest command)
    (Where (bytes_eq name (codes "verify")) (IsOf verify_form rest command)
    (Where (bytes_eq name (codes "serve")) (IsOf serve_form rest command)
    (Where (bytes_eq name (codes "fetch")) (IsOf fetch_form rest command)
    (Where (bytes_eq name (codes "mirror")) (IsOf mirror_form rest command)
    (Where (bytes_eq name (codes "swarm")) (IsOf swarm_form rest command)
    (Where (bytes_eq name (codes "audit")) (IsOf audit_form rest command) ⊥))))))))))

named : (name other : List ℕ) (rest more : List (List ℕ)) (command : Command) → name ∷ rest ≡ other ∷ more
    → (OperandLine (other ∷ rest) command → IsAsked other rest command) → OperandLine (name ∷ rest) command → IsAsked name rest command
named name other rest more command begins asked line =
    let same : name ≡ other = cc in
    subst (λ n. IsAsked n rest command) (sym same) (asked (subst (λ n. OperandLine (n ∷ rest) command) same line))

pub asked_by_line : (name : List ℕ) (rest : List (List ℕ)) (command : Command) → OperandLine (name ∷ rest) command → IsAsked name rest command
asked_by_line name rest (Check cid) line = named name (codes "check") rest line.line.rest (Check cid) line.line.begins (one_cid_of (codes "check") Check rest cid) line
asked_by_line name rest (Node cid) line = named name (codes "node") rest line.line.rest (Node cid) line.line.begins (one_cid_of (codes "node") Node rest cid) line
asked_by_line name rest (CidToHex cid) line = named name (codes "cid") rest line.line.rest (CidToHex cid) line.line.begins (λ l. inl (to_hex_of rest cid l)) line
asked_by_line name rest (CidToText cid) line = named name (codes "cid") rest line.line.rest (CidToText cid) line.line.begins (λ l. inr (to_text_of rest cid l)) line
asked_by_line name rest (Export parts) line = named name (codes "export") rest line.line.rest (Export parts) line.line.begins (export_line rest parts) line
asked_by_line name rest (Import parts) line = named name (codes "import") rest line.line.rest (Import parts) line.line.begins (import_line rest parts) line
asked_by_line name rest (Verify query) line = named name (codes "verify") rest line.line.rest (Verify query) line.line.begins (verify_line rest query) line
asked_by_line name rest (VerifyInto parts) line = named name (codes "verify") rest line.line.rest (VerifyInto parts) line.line.begins (verify_into_line rest parts) line
asked_by_line name rest (Serve parts) line = named name (codes "serve") rest line.line.rest (Serve parts) line.line.begins (serve_line rest parts) line
asked_by_line name rest (Fetch parts) line = named name (codes "fetch") rest line.line.rest (Fetch parts) line.line.begins (fetch_line rest parts) line
asked_by_line name rest (FetchInto parts) line = named name (codes "fetch") rest line.line.rest (FetchInto parts) line.line.begins (fetch_into_line rest parts) line
asked_by_line name rest (Mirror parts) line = named name (codes "mirror") rest line.line.rest (Mirror parts) line.line.begins (mirror_line rest parts) line
asked_by_line name rest (Swarm parts) line = named name (codes "swarm") rest line.line.rest (Swarm parts) line.line.begins (swarm_line rest parts) line
asked_by_line name rest (Audit parts) line = named name (codes "audit") rest line.line.rest (Audit parts) line.line.begins (audit_line rest parts) line
asked_by_line name rest (Help topic) line = absurd line
asked_by_line name rest Version line = absurd line

pub export_lines : Lines export_form
export_lines = record { reads = asked_by_line (codes "export"); writes = export_by }

pub import_lines : Lines import_form
import_lines = record { reads = asked_by_line (codes "import"); writes = import_by }

pub verify_lines : Lines verify_form
verify_lines = record { reads = asked_by_line (codes "verify"); writes = verify_by }

pub serve_lines : Lines serve_form
serve_lines = record { reads = asked_by_line (codes "serve"); writes = serve_by }

pub fetch_lines : Lines fetch_form
fetch_lines = record { reads = asked_by_line (codes "fetch"); writes = fetch_by }

pub mirror_lines : Lines mirror_form
mirror_lines = record { reads = asked_by_line (codes "mirror"); writes = mirror_by }

pub swarm_lines : Lines swarm_form
swarm_lines = record { reads = asked_by_line (codes "swarm"); writes = swarm_by }

pub audit_lines : Lines audit_form
audit_lines = record { reads = asked_by_line (codes "audit"); writes = audit_by }

-- the words are these operands, and no others
pub record AreOperands (rest texts : List (List ℕ)) (options : List Given) : Type 0 where
  pub spelled : WordsSpelling cid_names rest texts options
  pub only : (texts_in : List (List ℕ)) (others : List Given) → WordsSpelling cid_names rest texts_in others → (texts ≡ texts_in) × (options ≡ others)

same_digits : (digits other : List ℕ) → hex_option digits ∷ [] ≡ hex_option other ∷ [] → digits ≡ other
same_digits digits other e =
    let values : value_at (hex_option digits ∷ []) (codes "hex") ≡ value_at (hex_option other ∷ []) (codes "hex") = ap (λ options. value_at options (codes "hex")) e in
    let somes : Some digits ≡ Some other = values in
    cc

pub no_digits : (digits : List ℕ) → [] ≡ hex_option digits ∷ [] → ⊥
no_digits digits e = cc

-- no memory for the operands
pub cid_memory : (rest : List (List ℕ)) (e : WordsFault) → ((texts_in : List (List ℕ)) (options : List Given) → WordsSpelling cid_names rest texts_in options → e ≡ OutOfMemory)
    → Answers (codes "cid" ∷ rest) (Err e)
cid_memory rest e only = record {
  found = tt;
  only = λ command line. elim (asked_by_line (codes "cid") rest command line) [ inl l ↦ only (l.1 ∷ []) [] l.3 | inr l ↦ only [] (hex_option l.1 ∷ []) l.4 ];
}

-- the operands are of neither form
pub cid_refused : (rest texts : List (List ℕ)) (options : List Given) (e : WordsFault) → AreOperands rest texts options → ((text : List ℕ) → texts ≡ text ∷ [] → options ≡ [] → ⊥)
    → ((digits : List ℕ) → texts ≡ [] → options ≡ hex_option digits ∷ [] → ⊥) → Answers (codes "cid" ∷ rest) (Err e)
cid_refused rest texts options e are no_text no_hex = record {
  found = tt;
  only = λ command line. elim (asked_by_line (codes "cid") rest command line) [
    | inl l ↦ let same = are.only (l.1 ∷ []) [] l.3 in absurd (no_text l.1 same.0 same.1)
    | inr l ↦ let same = are.only [] (hex_option l.1 ∷ []) l.4 in absurd (no_hex l.1 same.0 same.1)
  ];
}

pub cid_text_answer : (rest texts : List (List ℕ)) (options : List Given) (text : List ℕ) (answer : Result CidParts WordsFault) → AreOperands rest texts options
    → texts ≡ text ∷ [] → options ≡ [] → Exact (λ cid. CidText cid text) answer → Answers (codes "cid" ∷ rest) (answer_of CidToHex answer)
cid_text_answer rest texts options text answer are is none exact =
    exact_answer CidToHex (λ cid. CidText cid text) (codes "cid" ∷ rest) answer
    (λ command line. elim (asked_by_line (codes "cid") rest command line) [
      | inl l ↦ (l.0, l.2, subst (λ t. CidText l.0 t) (same_only l.1 text (sym (are.only (l.1 ∷ []) [] l.3).0 ∙ is)) l.4)
      | inr l ↦ absurd (no_digits l.1 (sym none ∙ (are.only [] (hex_option l.1 ∷ []) l.4).1))
    ])
    (λ cid text_is. record {
      text = text;
      line = record { rest = rest; begins = refl; operands = subst (λ p. WordsSpelling cid_names rest p []) is (subst (λ o. WordsSpelling cid_names rest texts o) none are.spelled) };
      text_is = text_is;
    })
    exact

pub cid_hex_answer : (rest texts : List (List ℕ)) (options : List Given) (digits : List ℕ) (answer : Result CidParts WordsFault) → AreOperands rest texts options
    → texts ≡ [] → options ≡ hex_option digits ∷ [] → Exact (λ cid. (bytes : List ℕ) × (decode_of digits ≡ Ok bytes) × CidBytes cid bytes) answer
    → Answers (codes "cid" ∷ rest) (answer_of CidToText answer)
cid_hex_answer rest texts options digits answer are none is exact =
    exact_answer CidToText (λ cid. (bytes : List ℕ) × (decode_of digits ≡ Ok bytes) × CidBytes cid bytes) (codes "cid" ∷ rest) answer
    (λ command line. elim (asked_by_line (codes "cid") rest command line) [
      | inl l ↦ absurd (no_digits digits (sym (are.only (l.1 ∷ []) [] l.3).1 ∙ is))
      | inr l ↦
          let same : l.1 ≡ digits = same_digits l.1 digits (sym (are.only [] (hex_option l.1 ∷ []) l.4).1 ∙ is) in
          (l.0, l.3, (l.2, subst (λ (d : List ℕ). decode_of d ≡ Ok l.2) same l.5, l.6))
    ])
    (λ cid hex. record {
      digits = digits;
      line = record { rest = rest; begins = refl; operands = subst (λ p. WordsSpelling cid_names rest p (hex_option digits ∷ [])) none (subst (λ o. WordsSpelling cid_names rest texts o) is are.spelled) };
      bytes = hex.0;
      digits_are = hex.1;
      bytes_are = hex.2;
    })
    exact

-- words are one CID at most
pub same_cid : ((a b : CidParts) (text : List ℕ) → CidText a text → CidText b text → a ≡ b)
    → (words : List (List ℕ)) (a b : CidParts) → OneCid words a → OneCid words b → a ≡ b
same_cid one_text words a b p q =
    let both : p.text ∷ [] ≡ q.text ∷ [] = (one_spelling_of_words no_names words (p.text ∷ []) (q.text ∷ []) [] [] (are_by no_names refl) p.operands q.operands).0 in
    let same : q.text ≡ p.text = cc in
    one_text a b p.text p.text_is (subst (λ t. CidText b t) same q.text_is)

one_of_cid : (words all more : List (List ℕ)) (every others : List Given) → WordsSpelling cid_names words all every → WordsSpelling cid_names words more others → (all ≡ more) × (every ≡ others)
one_of_cid words all more every others r s = one_spelling_of_words cid_names words all more every others (are_by cid_names refl) r s

-- words spell at most one command
pub one_line : ((a b : CidParts) (text : List ℕ) → CidText a text → CidText b text → a ≡ b)
    → ((a b : CidParts) (u v x y : List ℕ) → CidBytes a u → CidBytes b v → u ++ x ≡ v ++ y → (u ≡ v) × (a ≡ b))
    → ((target : List ℕ) (options : List Given) (a b : QueryParts) → QueryBy target options a → QueryBy target options b → a ≡ b)
    → ((target : List ℕ) (options : List Given) (a b : QueryParts) → RawGiven target options a → RawGiven target options b → a ≡ b)
    → OneInto → (words : List (List ℕ)) (a b : Command) → OperandLine words a → OperandLine words b → a ≡ b
one_line one_cid no_front one_query one_raw one_into words (Check cid) b line other =
    let l = asked_by_line (codes "check") line.line.rest b (subst (λ ws. OperandLine ws b) line.line.begins other) in
    ap Check (same_cid one_cid line.line.rest cid l.0 (record { text = line.text; operands = line.line.operands; text_is = line.text_is }) l.2) ∙ sym l.1
one_line one_cid no_front one_query one_raw one_into words (Node cid) b line other =
    let l = asked_by_line (codes "node") line.line.rest b (subst (λ ws. OperandLine ws b) line.line.begins other) in
    ap Node (same_cid one_cid line.line.rest cid l.0 (record { text = line.text; operands = line.line.operands; text_is = line.text_is }) l.2) ∙ sym l.1
one_line one_cid no_front one_query one_raw one_into words (CidToHex cid) b line other =
    elim (asked_by_line (codes "cid") line.line.rest b (subst (λ ws. OperandLine ws b) line.line.begins other)) [
      | inl l ↦
          let both : line.text ∷ [] ≡ l.1 ∷ [] = (one_of_cid line.line.rest (line.text ∷ []) (l.1 ∷ []) [] [] line.line.operands l.3).0 in
          let same : l.1 ≡ line.text = cc in
          ap CidToHex (one_cid cid l.0 line.text line.text_is (subst (λ t. CidText l.0 t) same l.4)) ∙ sym l.2
      | inr l ↦ absurd (no_digits l.1 (one_of_cid line.line.rest (line.text ∷ []) [] [] (hex_option l.1 ∷ []) line.line.operands l.4).1)
    ]
one_line one_cid no_front one_query one_raw one_into words (CidToText cid) b line other =
    elim (asked_by_line (codes "cid") line.line.rest b (subst (λ ws. OperandLine ws b) line.line.begins other)) [
      | inl l ↦ absurd (no_digits line.digits (sym (one_of_cid line.line.rest [] (l.1 ∷ []) (hex_option line.digits ∷ []) [] line.line.operands l.3).1))
      | inr l ↦
          let same : l.1 ≡ line.digits = sym (same_digits line.digits l.1 (one_of_cid line.line.rest [] [] (hex_option line.digits ∷ []) (hex_option l.1 ∷ []) line.line.operands l.4).1) in
          let found : Ok line.bytes ≡ Ok l.2 = sym line.digits_are ∙ subst (λ (d : List ℕ). decode_of d ≡ Ok l.2) same l.5 in
          let bytes : line.bytes ≡ l.2 = cc in
          ap CidToText (no_front cid l.0 line.bytes l.2 [] [] line.bytes_are l.6 (ap (λ bs. bs ++ []) bytes)).1 ∙ sym l.3
    ]
one_line one_cid no_front one_query one_raw one_into words (Export parts) b line other =
    one_of_form export_form words line.line.rest (Export parts) b export_lines (are_by query_names refl) (one_export one_query) line.line.begins line other
one_line one_cid no_front one_query one_raw one_into words (Import parts) b line other =
    one_of_form import_form words line.line.rest (Import parts) b import_lines (are_by import_names refl) one_import line.line.begins line other
one_line one_cid no_front one_query one_raw one_into words (Verify query) b line other =
    one_of_form verify_form words line.line.rest (Verify query) b verify_lines (are_by verify_names refl) (one_verify one_query one_into) line.line.begins line other
one_line one_cid no_front one_query one_raw one_into words (VerifyInto parts) b line other =
    one_of_form verify_form words line.line.rest (VerifyInto parts) b verify_lines (are_by verify_names refl) (one_verify one_query one_into) line.line.begins line other
one_line one_cid no_front one_query one_raw one_into words (Serve parts) b line other =
    one_of_form serve_form words line.line.rest (Serve parts) b serve_lines (are_by serve_names refl) one_serve line.line.begins line other
one_line one_cid no_front one_query one_raw one_into words (Fetch parts) b line other =
    one_of_form fetch_form words line.line.rest (Fetch parts) b fetch_lines (are_by fetch_names refl) (one_fetch one_raw one_query one_into) line.line.begins line other
one_line one_cid no_front one_query one_raw one_into words (FetchInto parts) b line other =
    one_of_form fetch_form words line.line.rest (FetchInto parts) b fetch_lines (are_by fetch_names refl) (one_fetch one_raw one_query one_into) line.line.begins line other
one_line one_cid no_front one_query one_raw one_into words (Mirror parts) b line other =
    one_of_form mirror_form words line.line.rest (Mirror parts) b mirror_lines (are_by mirror_names refl) (one_mirror one_cid) line.line.begins line other
one_line one_cid no_front one_query one_raw one_into words (Swarm parts) b line other =
    one_of_form swarm_form words line.line.rest (Swarm parts) b swarm_lines (are_by swarm_names refl) (one_swarm one_cid) line.line.begins line other
one_line one_cid no_front one_query one_raw one_into words (Audit parts) b line other =
    one_of_form audit_form words line.line.rest (Audit parts) b audit_lines (are_by audit_names refl) one_audit line.line.begins line other
one_line one_cid no_front one_query one_raw one_into words (Help topic) b line other = absurd line
one_line one_cid no_front one_query one_raw one_into words Version b line other = absurd line

-- no operands are spelled behind `help` and `version`
pub help_refused : (rest : List (List ℕ)) → Answers (codes "help" ∷ rest) (Err Usage)
help_refused rest = record { found = tt; only = λ command line. absurd (asked_by_line (codes "help") rest command line) }

pub version_refused : (rest : List (List ℕ)) → Answers (codes "version" ∷ rest) (Err Usage)
version_refused rest = record { found = tt; only = λ command line. absurd (asked_by_line (codes "version") rest command line) }

-- the answers to `check` and `node`
one_cid_line : (name : List ℕ) (rest : List (List ℕ)) (cid : CidParts) → OneCid rest cid → OneCidLine name (name ∷ rest) cid
one_cid_line name rest cid p = record { text = p.text; line = record { rest = rest; begins = refl; operands = p.operands }; text_is = p.text_is }

pub check_answer : (rest : List (List ℕ)) (answer : Result CidParts WordsFault) → Exact (OneCid rest) answer → Answers (codes "check" ∷ rest) (answer_of Check answer)
check_answer rest answer exact = exact_answer Check (OneCid rest) (codes "check" ∷ rest) answer (asked_by_line (codes "check") rest) (one_cid_line (codes "check") rest) exact

pub node_answer : (rest : List (List ℕ)) (answer : Result CidParts WordsFault) → Exact (OneCid rest) answer → Answers (codes "node" ∷ rest) (answer_of Node answer)
node_answer rest answer exact = exact_answer Node (OneCid rest) (codes "node" ∷ rest) answer (asked_by_line (codes "node") rest) (one_cid_line (codes "node") rest) exact

-- the answer to the operands of one CID
pub one_cid_found : (rest : List (List ℕ)) (text : List ℕ) (options : List Given) (answer : Result CidParts WordsFault) → WordsSpelling no_names rest (text ∷ []) options
    → IfOk answer (λ cid. CidText cid text) → IfOk answer (λ cid. OneCid rest cid)
one_cid_found rest text options (Err e) spelled found = tt
one_cid_found rest text options (Ok cid) spelled found = record { text = text; operands = no_options rest (text ∷ []) options spelled; text_is = found }

-- whether there are positional words
pub no_texts : (xs : List (Bor (List ℕ))) (size : ℕ) → size ≡ length xs → (size == 0) ≡ true → texts_of xs ≡ []
no_texts [] size is e = refl
no_texts (x ∷ xs) size is e = absurd (grind (arith, nat_tests))

pub some_texts : (xs : List (Bor (List ℕ))) (size : ℕ) → size ≡ length xs → (size == 0) ≡ false → texts_of xs ≡ [] → ⊥
some_texts [] size is e none = absurd (grind (arith, nat_tests))
some_texts (x ∷ xs) size is e none = cc
