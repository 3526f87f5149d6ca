-- The causes at one place exclude one another, and the first place with a cause is one.
use Rattle.std.proofs.Common.{◌≡◌, ℕ, ◌<◌, ◌≤◌, ◌≢◌, ◌⊎◌, List, [], ◌∷◌, ◌++◌, length, get_or, map, refl, sym, ap, ap₂, ◌∙◌, subst, inl, inr, arith}
use Rattle.std.specs.Prelude.{Contains}
use Rattle.std.proofs.lemmas.Bool.{cases_order}
use Rattle.std.proofs.lemmas.List.{append-nil, length-append, get_or-map, get_or_default}
use Rattle.std.proofs.lemmas.List.Elements.{All-contains, Contains-append_right}
use Rattle.tg_pbtable.specs.declared.table.Rule.{Rule}
use Rattle.tg_pbtable.specs.declared.table.Times.{Times}
use Rattle.tg_pbtable.specs.declared.table.Times.TheVariants.{One, Optional, Many}
use Rattle.tg_pbtable.specs.declared.table.Order.{Order}
use Rattle.tg_pbtable.specs.declared.table.Field.{Field}
use Rattle.tg_pbtable.specs.declared.fault.PbFault.{PbFault}
use Rattle.tg_pbtable.specs.declared.fault.PbFault.TheVariants as faults
use Rattle.tg_pbtable.specs.Message.{Message, IsTable, Spelled, AreRuled, IsRuledField, HasRule, count_of, numbers_of, IsInOrder, IsAtMost, IsCount}
use Rattle.tg_pbtable.specs.Wires.{wire_code}
use Rattle.tg_pbtable.specs.Faults.{Begins, FirstAt, IsShort, HasBadVarint, IsUnknown, HasWrongWire, IsOutOfOrder, IsDoubled, IsMissing, HasField, BreaksOrder, HasCause, place_of}
use Rattle.tg_pbtable.specs.Cursor.{EndsIn}
use Rattle.tg_pbtable.proofs.Whole.{read_short_bad, read_short_field, read_bad_field, read_one_field, spelled_has}
use Rattle.tg_pbtable.proofs.Spellings.{Further, compare, further_more, one_reading}
use Rattle.tg_pbtable.proofs.Numbers.{no_break, break_last, count_twice, ends_contains, numbers_push}

-- a number has one rule
pub one_rule : (rules : List Rule) (r s : Rule) → IsTable rules → Contains rules r → Contains rules s → r.number ≡ s.number → r ≡ s
one_rule rules r s t a b e =
    let i = a.0 in
    let j = b.0 in
    let il : i < length rules = a.1 in
    let jl : j < length rules = b.1 in
    let left : get_or (map (λ (x : Rule). x.number) rules) i 0 ≡ r.number = get_or-map (λ (x : Rule). x.number) rules i r 0 il ∙ ap (λ (x : Rule). x.number) a.2 in
    let right : get_or (map (λ (x : Rule). x.number) rules) j 0 ≡ s.number = get_or-map (λ (x : Rule). x.number) rules j s 0 jl ∙ ap (λ (x : Rule). x.number) b.2 in
    elim (cases_order i j) [
      | inl same ↦ sym a.2 ∙ ap (λ (k : ℕ). get_or rules k r) same ∙ get_or_default rules j r s jl ∙ b.2
      | inr other ↦ elim other [
        | inl lt ↦ absurd (t.differ i j lt jl (left ∙ e ∙ sym right))
        | inr gt ↦ absurd (t.differ j i gt il (right ∙ sym e ∙ sym left))
      ]
    ]

-- what a place may hold: a cause of a fault, or a field with which the fields go on
pub data Verdict : Type 0 where
  short : Verdict
  bad : Verdict
  unknown : ℕ → Verdict
  wrong : Verdict
  order : Verdict
  doubled : Verdict
  on : Verdict

pub record GoesOn (rules : List Rule) (way : Order) (fields : List Field) (rest : List ℕ) : Type 0 where
  pub rule : Rule
  pub among : Contains rules rule
  pub field : HasField rule.number (wire_code rule.wire) rest
  pub no_break : BreaksOrder way (numbers_of fields) rule.number → ⊥
  pub no_double : rule.times ≢ Many → EndsIn (numbers_of fields) rule.number → ⊥

abbrev pub Judged : List Rule → Order → List Field → List ℕ → Verdict → Type 0
Judged rules way fields rest short = IsShort rest
Judged rules way fields rest bad = HasBadVarint rest
Judged rules way fields rest (unknown n) = IsUnknown rules n rest
Judged rules way fields rest wrong = HasWrongWire rules rest
Judged rules way fields rest order = IsOutOfOrder rules way fields rest
Judged rules way fields rest doubled = IsDoubled rules fields rest
Judged rules way fields rest on = GoesOn rules way fields rest

-- ---- pairs of them

pub unknown_known : (rules : List Rule) (rest : List ℕ) (n : ℕ) (rule : Rule) (number wire : ℕ) → IsUnknown rules n rest → Contains rules rule → rule.number ≡ number → HasField number wire rest → ⊥
unknown_known rules rest n rule number wire u among e f =
    let same : n ≡ number = (read_one_field rest n number u.wire wire u.field f).0 in
    All-contains (λ (r : Rule). r.number ≢ n) rules rule u.unknown among (e ∙ sym same)

pub wrong_right : (rules : List Rule) (rest : List ℕ) (rule : Rule) → IsTable rules → HasWrongWire rules rest → Contains rules rule → HasField rule.number (wire_code rule.wire) rest → ⊥
wrong_right rules rest rule t w among f =
    let same = read_one_field rest w.number rule.number w.wire (wire_code rule.wire) w.field f in
    let rules_same : w.rule ≡ rule = one_rule rules w.rule rule t w.among among (w.number_is ∙ same.0) in
    w.other (ap (λ (r : Rule). wire_code r.wire) rules_same ∙ sym same.1)

order_doubled : (rules : List Rule) (way : Order) (fields : List Field) (rest : List ℕ) → IsInOrder way (numbers_of fields) → IsOutOfOrder rules way fields rest → IsDoubled rules fields rest → ⊥
order_doubled rules way fields rest h o d =
    let same : d.rule.number ≡ o.rule.number = (read_one_field rest d.rule.number o.rule.number (wire_code d.rule.wire) (wire_code o.rule.wire) d.ruled.field o.ruled.field).0 in
    break_last way (numbers_of fields) o.rule.number h o.breaks (subst (λ (n : ℕ). EndsIn (numbers_of fields) n) same (d.front, d.last))

order_on : (rules : List Rule) (way : Order) (fields : List Field) (rest : List ℕ) → IsOutOfOrder rules way fields rest → GoesOn rules way fields rest → ⊥
order_on rules way fields rest o g =
    let same : o.rule.number ≡ g.rule.number = (read_one_field rest o.rule.number g.rule.number (wire_code o.rule.wire) (wire_code g.rule.wire) o.ruled.field g.field).0 in
    g.no_break (subst (λ (n : ℕ). BreaksOrder way (numbers_of fields) n) same o.breaks)

doubled_on : (rules : List Rule) (way : Order) (fields : List Field) (rest : List ℕ) → IsTable rules → IsDoubled rules fields rest → GoesOn rules way fields rest → ⊥
doubled_on rules way fields rest t d g =
    let same : d.rule.number ≡ g.rule.number = (read_one_field rest d.rule.number g.rule.number (wire_code d.rule.wire) (wire_code g.rule.wire) d.ruled.field g.field).0 in
    let rules_same : d.rule ≡ g.rule = one_rule rules d.rule g.rule t d.ruled.among g.among same in
    g.no_double (λ e. d.once (ap (λ (r : Rule). r.times) rules_same ∙ e)) (subst (λ (n : ℕ). EndsIn (numbers_of fields) n) same (d.front, d.last))

pub one_verdict : (rules : List Rule) (way : Order) (fields : List Field) (rest : List ℕ) (v w : Verdict) → IsTable rules → IsInOrder way (numbers_of fields) → Judged rules way fields rest v → Judged rules way fields rest w → v ≡ w
one_verdict rules way fields rest short short table inorder a b = refl
one_verdict rules way fields rest short bad table inorder a b = absurd (read_short_bad rest a b)
one_verdict rules way fields rest short (unknown n) table inorder a b = absurd (read_short_field rest n b.wire a b.field)
one_verdict rules way fields rest short wrong table inorder a b = absurd (read_short_field rest b.number b.wire a b.field)
one_verdict rules way fields rest short order table inorder a b = absurd (read_short_field rest b.rule.number (wire_code b.rule.wire) a b.ruled.field)
one_verdict rules way fields rest short doubled table inorder a b = absurd (read_short_field rest b.rule.number (wire_code b.rule.wire) a b.ruled.field)
one_verdict rules way fields rest short on table inorder a b = absurd (read_short_field rest b.rule.number (wire_code b.rule.wire) a b.field)
one_verdict rules way fields rest bad short table inorder a b = absurd (read_short_bad rest b a)
one_verdict rules way fields rest bad bad table inorder a b = refl
one_verdict rules way fields rest bad (unknown n) table inorder a b = absurd (read_bad_field rest n b.wire a b.field)
one_verdict rules way fields rest bad wrong table inorder a b = absurd (read_bad_field rest b.number b.wire a b.field)
one_verdict rules way fields rest bad order table inorder a b = absurd (read_bad_field rest b.rule.number (wire_code b.rule.wire) a b.ruled.field)
one_verdict rules way fields rest bad doubled table inorder a b = absurd (read_bad_field rest b.rule.number (wire_code b.rule.wire) a b.ruled.field)
one_verdict rules way fields rest bad on table inorder a b = absurd (read_bad_field rest b.rule.number (wire_code b.rule.wire) a b.field)
one_verdict rules way fields rest (unknown m) short table inorder a b = absurd (read_short_field rest m a.wire b a.field)
one_verdict rules way fields rest (unknown m) bad table inorder a b = absurd (read_bad_field rest m a.wire b a.field)
one_verdict rules way fields rest (unknown m) (unknown n) table inorder a b = ap unknown (read_one_field rest m n a.wire b.wire a.field b.field).0
one_verdict rules way fields rest (unknown m) wrong table inorder a b = absurd (unknown_known rules rest m b.rule b.number b.wire a b.among b.number_is b.field)
one_verdict rules way fields rest (unknown m) order table inorder a b = absurd (unknown_known rules rest m b.rule b.rule.number (wire_code b.rule.wire) a b.ruled.among refl b.ruled.field)
one_verdict rules way fields rest (unknown m) doubled table inorder a b = absurd (unknown_known rules rest m b.rule b.rule.number (wire_code b.rule.wire) a b.ruled.among refl b.ruled.field)
one_verdict rules way fields rest (unknown m) on table inorder a b = absurd (unknown_known rules rest m b.rule b.rule.number (wire_code b.rule.wire) a b.among refl b.field)
one_verdict rules way fields rest wrong short table inorder a b = absurd (read_short_field rest a.number a.wire b a.field)
one_verdict rules way fields rest wrong bad table inorder a b = absurd (read_bad_field rest a.number a.wire b a.field)
one_verdict rules way fields rest wrong (unknown n) table inorder a b = absurd (unknown_known rules rest n a.rule a.number a.wire b a.among a.number_is a.field)
one_verdict rules way fields rest wrong wrong table inorder a b = refl
one_verdict rules way fields rest wrong order table inorder a b = absurd (wrong_right rules rest b.rule table a b.ruled.among b.ruled.field)
one_verdict rules way fields rest wrong doubled table inorder a b = absurd (wrong_right rules rest b.rule table a b.ruled.among b.ruled.field)
one_verdict rules way fields rest wrong on table inorder a b = absurd (wrong_right rules rest b.rule table a b.among b.field)
one_verdict rules way fields rest order short table inorder a b = absurd (read_short_field rest a.rule.number (wire_code a.rule.wire) b a.ruled.field)
one_verdict rules way fields rest order bad table inorder a b = absurd (read_bad_field rest a.rule.number (wire_code a.rule.wire) b a.ruled.field)
one_verdict rules way fields rest order (unknown n) table inorder a b = absurd (unknown_known rules rest n a.rule a.rule.number (wire_code a.rule.wire) b a.ruled.among refl a.ruled.field)
one_verdict rules way fields rest order wrong table inorder a b = absurd (wrong_right rules rest a.rule table b a.ruled.among a.ruled.field)
one_verdict rules way fields rest order order table inorder a b = refl
one_verdict rules way fields rest order doubled table inorder a b = absurd (order_doubled rules way fields rest inorder a b)
one_verdict rules way fields rest order on table inorder a b = absurd (order_on rules way fields rest a b)
one_verdict rules way fields rest doubled short table inorder a b = absurd (read_short_field rest a.rule.number (wire_code a.rule.wire) b a.ruled.field)
one_verdict rules way fields rest doubled bad table inorder a b = absurd (read_bad_field rest a.rule.number (wire_code a.rule.wire) b a.ruled.field)
one_verdict rules way fields rest doubled (unknown n) table inorder a b = absurd (unknown_known rules rest n a.rule a.rule.number (wire_code a.rule.wire) b a.ruled.among refl a.ruled.field)
one_verdict rules way fields rest doubled wrong table inorder a b = absurd (wrong_right rules rest a.rule table b a.ruled.among a.ruled.field)
one_verdict rules way fields rest doubled order table inorder a b = absurd (order_doubled rules way fields rest inorder b a)
one_verdict rules way fields rest doubled doubled table inorder a b = refl
one_verdict rules way fields rest doubled on table inorder a b = absurd (doubled_on rules way fields rest table a b)
one_verdict rules way fields rest on short table inorder a b = absurd (read_short_field rest a.rule.number (wire_code a.rule.wire) b a.field)
one_verdict rules way fields rest on bad table inorder a b = absurd (read_bad_field rest a.rule.number (wire_code a.rule.wire) b a.field)
one_verdict rules way fields rest on (unknown n) table inorder a b = absurd (unknown_known rules rest n a.rule a.rule.number (wire_code a.rule.wire) b a.among refl a.field)
one_verdict rules way fields rest on wrong table inorder a b = absurd (wrong_right rules rest a.rule table b a.among a.field)
one_verdict rules way fields rest on order table inorder a b = absurd (order_on rules way fields rest b a)
one_verdict rules way fields rest on doubled table inorder a b = absurd (doubled_on rules way fields rest table b a)
one_verdict rules way fields rest on on table inorder a b = refl

-- ---- places

too_many : (times : Times) (n : ℕ) → times ≢ Many → 2 ≤ n → IsAtMost times n → ⊥
too_many One n once two most = omega arith
too_many Optional n once two most = omega arith
too_many Many n once two most = once refl

-- a field of fields that the table allows goes on
further_goes : (rules : List Rule) (way : Order) (text : List ℕ) (all : List Field) (at at' : ℕ) (rest rest' : List ℕ) (fields : List Field) → Begins rules way text all at' rest' → Further fields at rest all → GoesOn rules way fields rest
further_goes rules way text all at at' rest rest' fields b f =
    let here : Contains (fields ++ f.field ∷ f.others) f.field = Contains-append_right fields (f.field ∷ f.others) f.field (0, omega arith, refl) in
    let has : HasRule rules f.field.number f.field.wire =
    (All-contains (IsRuledField rules) (fields ++ f.field ∷ f.others) f.field (subst (λ (fs : List Field). AreRuled rules fs) f.whole b.ruled) here).has_rule in
    let numbers : numbers_of all ≡ numbers_of fields ++ f.field.number ∷ numbers_of f.others = ap numbers_of f.whole ∙ numbers_push fields f.field f.others in
    let inorder : IsInOrder way (numbers_of fields ++ f.field.number ∷ numbers_of f.others) = subst (λ (ns : List ℕ). IsInOrder way ns) numbers b.ordered in
    let spelled : HasField f.field.number (wire_code f.field.wire) rest = spelled_has at f.field.number f.field.wire f.field.value f.front f.behind rest f.spelled f.stands in
    record {
      rule = has.rule;
      among = has.among;
      field = subst (λ (n : ℕ). HasField n (wire_code has.rule.wire) rest) (sym has.number_is) (subst (λ (w : ℕ). HasField f.field.number w rest) (ap wire_code (sym has.wire_is)) spelled);
      no_break = λ breaks. no_break way (numbers_of fields) (numbers_of f.others) f.field.number inorder (subst (λ (n : ℕ). BreaksOrder way (numbers_of fields) n) has.number_is breaks);
      no_double = λ once ends.
          let twice : 2 ≤ count_of (fields ++ f.field ∷ f.others) has.rule.number = count_twice fields f.others f.field has.rule.number (sym has.number_is) (ends_contains (numbers_of fields) has.rule.number ends) in
          let most : IsAtMost has.rule.times (count_of (fields ++ f.field ∷ f.others) has.rule.number) =
          subst (λ (fs : List Field). IsAtMost has.rule.times (count_of fs has.rule.number)) f.whole (All-contains (λ (r : Rule). IsAtMost r.times (count_of all r.number)) rules has.rule b.counts has.among) in
          too_many has.rule.times (count_of (fields ++ f.field ∷ f.others) has.rule.number) once twice most;
    }

abbrev pub JudgedAt : List Rule → Order → List ℕ → ℕ → Verdict → Type 0
JudgedAt rules way text at v = FirstAt rules way text at (λ fields rest. Judged rules way fields rest v)

pub one_place : (rules : List Rule) (way : Order) (text : List ℕ) (m n : ℕ) (v w : Verdict) → IsTable rules → (v ≡ on → ⊥) → (w ≡ on → ⊥) → JudgedAt rules way text m v → JudgedAt rules way text n w → (m ≡ n) × (v ≡ w)
one_place rules way text m n v w table stops stops' a b =
    elim (compare a.fields b.fields 0 a.begins.front a.rest b.begins.front b.rest a.begins.spelled b.begins.spelled (sym a.begins.whole ∙ b.begins.whole)) [
      | inl h ↦
          let cause : Judged rules way b.fields b.rest v = subst (λ (fs : List Field). Judged rules way fs b.rest v) h.0 (subst (λ (t : List ℕ). Judged rules way a.fields t v) h.2 a.cause) in
          (a.begins.at_is ∙ ap length h.1 ∙ sym b.begins.at_is, one_verdict rules way b.fields b.rest v w table b.begins.ordered cause b.cause)
      | inr more ↦ elim more [
        | inl f ↦ absurd (stops (one_verdict rules way a.fields a.rest v on table a.begins.ordered a.cause (further_goes rules way text b.fields _ _ a.rest b.rest a.fields b.begins f)))
        | inr f ↦ absurd (stops' (one_verdict rules way b.fields b.rest w on table b.begins.ordered b.cause (further_goes rules way text a.fields _ _ b.rest a.rest b.fields a.begins f)))
      ]
    ]

nothing_left : 0 < length {A = ℕ} [] → ⊥
nothing_left p = omega arith

pub whole_place : (rules : List Rule) (way : Order) (text : List ℕ) (n end : ℕ) (all : List Field) (v : Verdict) → IsTable rules → (v ≡ on → ⊥) → Begins rules way text all end [] → JudgedAt rules way text n v → ⊥
whole_place rules way text n end all v table stops b a =
    elim (compare a.fields all 0 a.begins.front a.rest b.front [] a.begins.spelled b.spelled (sym a.begins.whole ∙ b.whole)) [
      | inl h ↦ nothing_left (subst (λ (t : List ℕ). 0 < length t) h.2 a.more)
      | inr more ↦ elim more [
        | inl f ↦ stops (one_verdict rules way a.fields a.rest v on table a.begins.ordered a.cause (further_goes rules way text all _ _ a.rest [] a.fields b f))
        | inr f ↦ nothing_left (further_more all _ [] a.fields f)
      ]
    ]

-- ---- faults

abbrev pub fault_of : ℕ → Verdict → PbFault
fault_of at short = faults.Short at
fault_of at bad = faults.BadVarint at
fault_of at (unknown n) = faults.Unknown at n
fault_of at wrong = faults.WrongWire at
fault_of at order = faults.OutOfOrder at
fault_of at doubled = faults.Doubled at
fault_of at on = faults.OutOfMemory

whole_spelled : (rules : List Rule) (way : Order) (text : List ℕ) (all : List Field) (end : ℕ) → Begins rules way text all end [] → Spelled 0 all text
whole_spelled rules way text all end b = subst (λ (t : List ℕ). Spelled 0 all t) (sym (b.whole ∙ append-nil b.front)) b.spelled

pub one_missing : (rules : List Rule) (way : Order) (text : List ℕ) (m n : ℕ) → IsMissing rules way text m → IsMissing rules way text n → m ≡ n
one_missing rules way text m n a b =
    let same : a.fields ≡ b.fields = one_reading 0 text a.fields b.fields (whole_spelled rules way text a.fields (length text) a.begins) (whole_spelled rules way text b.fields (length text) b.begins) in
    let none_a : count_of b.fields a.rule.number ≡ 0 = ap₂ (λ (fs : List Field) (k : ℕ). count_of fs k) (sym same) a.number_is ∙ a.none in
    let none_b : count_of a.fields b.rule.number ≡ 0 = ap₂ (λ (fs : List Field) (k : ℕ). count_of fs k) same b.number_is ∙ b.none in
    let low : m ≤ b.rule.number = All-contains (λ (r : Rule). r.times ≡ One → count_of a.fields r.number ≡ 0 → m ≤ r.number) rules b.rule a.lowest b.among b.asks none_b in
    let high : n ≤ a.rule.number = All-contains (λ (r : Rule). r.times ≡ One → count_of b.fields r.number ≡ 0 → n ≤ r.number) rules a.rule b.lowest a.among a.asks none_a in
    omega (arith, a.number_is, b.number_is)

-- a fault's cause at a place, or a field that is missing
pub record AtPlace (rules : List Rule) (way : Order) (text : List ℕ) (fault : PbFault) : Type 0 where
  pub at : ℕ
  pub verdict : Verdict
  pub stops : verdict ≡ on → ⊥
  pub judged : JudgedAt rules way text at verdict
  pub is : fault ≡ fault_of at verdict

pub record AtEnd (rules : List Rule) (way : Order) (text : List ℕ) (fault : PbFault) : Type 0 where
  pub number : ℕ
  pub missing : IsMissing rules way text number
  pub is : fault ≡ faults.Missing number

where_it_holds : (rules : List Rule) (way : Order) (text : List ℕ) (fault : PbFault) → HasCause rules way text fault → AtPlace rules way text fault ⊎ AtEnd rules way text fault
where_it_holds rules way text (faults.Short at) h = inl (record { at = at; verdict = short; stops = λ e. cc; judged = h; is = refl })
where_it_holds rules way text (faults.BadVarint at) h = inl (record { at = at; verdict = bad; stops = λ e. cc; judged = h; is = refl })
where_it_holds rules way text (faults.Unknown at number) h = inl (record { at = at; verdict = unknown number; stops = λ e. cc; judged = h; is = refl })
where_it_holds rules way text (faults.WrongWire at) h = inl (record { at = at; verdict = wrong; stops = λ e. cc; judged = h; is = refl })
where_it_holds rules way text (faults.OutOfOrder at) h = inl (record { at = at; verdict = order; stops = λ e. cc; judged = h; is = refl })
where_it_holds rules way text (faults.Doubled at) h = inl (record { at = at; verdict = doubled; stops = λ e. cc; judged = h; is = refl })
where_it_holds rules way text (faults.Missing number) h = inr (record { number = number; missing = h; is = refl })
where_it_holds rules way text faults.OutOfMemory h = absurd h

first_inside : (rules : List Rule) (way : Order) (text : List ℕ) (at : ℕ) (Cause : List Field → List ℕ → Type 0) → FirstAt rules way text at Cause → at ≤ length text
first_inside rules way text at Cause f = omega (arith, f.begins.at_is, ap length f.begins.whole, length-append f.begins.front f.rest)

-- a fault lies in the text
pub fault_place : (rules : List Rule) (way : Order) (text : List ℕ) (fault : PbFault) → HasCause rules way text fault → place_of fault ≤ length text
fault_place rules way text (faults.Short at) h = first_inside rules way text at (λ _ rest. IsShort rest) h
fault_place rules way text (faults.BadVarint at) h = first_inside rules way text at (λ _ rest. HasBadVarint rest) h
fault_place rules way text (faults.Unknown at number) h = first_inside rules way text at (λ _ rest. IsUnknown rules number rest) h
fault_place rules way text (faults.WrongWire at) h = first_inside rules way text at (λ _ rest. HasWrongWire rules rest) h
fault_place rules way text (faults.OutOfOrder at) h = first_inside rules way text at (λ fields rest. IsOutOfOrder rules way fields rest) h
fault_place rules way text (faults.Doubled at) h = first_inside rules way text at (λ fields rest. IsDoubled rules fields rest) h
fault_place rules way text (faults.Missing number) h = omega arith
fault_place rules way text faults.OutOfMemory h = absurd h

-- a text has the cause of one fault at most
pub one_cause : (rules : List Rule) (way : Order) (text : List ℕ) (a b : PbFault) → IsTable rules → HasCause rules way text a → HasCause rules way text b → a ≡ b
one_cause rules way text a b table p q = elim (where_it_holds rules way text a p) [
  | inl x ↦ elim (where_it_holds rules way text b q) [
    | inl y ↦
        let same = one_place rules way text x.at y.at x.verdict y.verdict table x.stops y.stops x.judged y.judged in
        x.is ∙ ap₂ (λ (n : ℕ) (v : Verdict). fault_of n v) same.0 same.1 ∙ sym y.is
    | inr y ↦ absurd (whole_place rules way text x.at (length text) y.missing.fields x.verdict table x.stops y.missing.begins x.judged)
  ]
  | inr x ↦ elim (where_it_holds rules way text b q) [
    | inl y ↦ absurd (whole_place rules way text y.at (length text) x.missing.fields y.verdict table y.stops x.missing.begins y.judged)
    | inr y ↦ x.is ∙ ap (λ (n : ℕ). faults.Missing n) (one_missing rules way text x.number y.number x.missing y.missing) ∙ sym y.is
  ]
]

pub at_most : (times : Times) (n : ℕ) → IsCount times n → IsAtMost times n
at_most One n h = omega arith
at_most Optional n h = h
at_most Many n h = h

message_begins : (rules : List Rule) (way : Order) (text : List ℕ) (fields : List Field) → Message rules way text fields → Begins rules way text fields (length text) []
message_begins rules way text fields m = record {
  front = text;
  whole = sym (append-nil text);
  at_is = refl;
  spelled = m.spelled;
  ruled = m.ruled;
  counts = λ k d l. at_most (get_or rules k d).times (count_of fields (get_or rules k d).number) (m.counts k d l);
  ordered = m.ordered;
}

-- a message has no cause of a fault
pub no_cause : (rules : List Rule) (way : Order) (text : List ℕ) (fields : List Field) (fault : PbFault) → IsTable rules → Message rules way text fields → HasCause rules way text fault → ⊥
no_cause rules way text fields fault table m p = elim (where_it_holds rules way text fault p) [
  | inl x ↦ whole_place rules way text x.at (length text) fields x.verdict table x.stops (message_begins rules way text fields m) x.judged
  | inr x ↦
      let gone = x.missing in
      let same : gone.fields ≡ fields = one_reading 0 text gone.fields fields (whole_spelled rules way text gone.fields (length text) gone.begins) m.spelled in
      let none : count_of fields gone.rule.number ≡ 0 = ap₂ (λ (fs : List Field) (k : ℕ). count_of fs k) (sym same) gone.number_is ∙ gone.none in
      let count : IsCount gone.rule.times (count_of fields gone.rule.number) = All-contains (λ (r : Rule). IsCount r.times (count_of fields r.number)) rules gone.rule m.counts gone.among in
      let one : count_of fields gone.rule.number ≡ 1 = subst (λ (t : Times). IsCount t (count_of fields gone.rule.number)) gone.asks count in
      omega arith
]
