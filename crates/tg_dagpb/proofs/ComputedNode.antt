-- The node that is computed of a text is its own, and the fault that is computed has its cause.
use Rattle.std.proofs.Common.{◌≡◌, ◌≢◌, ℕ, ◌-◌, ◌<◌, ◌≤◌, Option, Some, None, Result, Ok, Err, List, [], ◌∷◌, ◌++◌, drop, refl, sym, ap, ap₂, ◌∙◌, subst, inl, inr, arith}
use Rattle.std.specs.Prelude.{All, MatchResult, ◌↔◌, ◌==◌, unwrap_or, slice_range}
use Rattle.std.proofs.lemmas.Bool.{cond-true, cond-false, cases_eq, eq-eqb, ne_eqb}
use Rattle.std.proofs.lemmas.List.Elements.{All-nil, All-cons, All-head, All-tail, All-append, All-take, All-drop}
use Rattle.tg_bytes.specs.Lists.{AreBytes}
use Rattle.tg_pbtable.specs.declared.table.Field.{Field}
use Rattle.tg_pbtable.specs.declared.table.Order.TheVariants.{Ascending, Runs}
use Rattle.tg_pbtable.specs.declared.table.Value.{Value}
use Rattle.tg_pbtable.specs.declared.table.Value.TheVariants.{Number, Place}
use Rattle.tg_pbtable.specs.declared.fault.PbFault.{PbFault}
use Rattle.tg_pbtable.specs.Message.{Message, IsOfWire, IsRuledField, AreRuled, count_of}
use Rattle.tg_pbtable.specs.Faults.{HasCause, moved_by}
use Rattle.tg_pbtable.specs.Values.{numbers_at, bytes_at, bytes_in, listed}
use Rattle.tg_pbtable.specs.Computed.{fields_of, and_then, first_of}
use Rattle.tg_pbtable.specs.Laws.{TableLaws}
use Rattle.tg_pbtable.specs.TableRules.{any_rule, rule_at}
use Rattle.tg_dagpb.specs.declared.TheConstants.{NODE, LINK}
use Rattle.tg_dagpb.specs.declared.Link.{Link}
use Rattle.tg_dagpb.specs.declared.Node.{Node}
use Rattle.tg_dagpb.specs.Node.{LinkText, HasLinkParts, LinkTexts, NodeText}
use Rattle.tg_dagpb.specs.Faults.{IsLinkText, HasNodeCause}
use Rattle.tg_dagpb.specs.Reading.{placed, HasFirstBad}
use Rattle.tg_dagpb.specs.Computed.{link_parts, link_in, moved_to, with_link, links_in, with_links, with_fields, node_of}
use Rattle.tg_dagpb.proofs.Checking.{placed_is, bad_link_there}
use Rattle.tg_dagpb.proofs.Parts.{node_table, link_table}

-- ---- a link

first_listed : {A : Type 0} (o : Option A) → first_of (listed o) ≡ o
first_listed None = refl
first_listed (Some x) = refl

link_parts_told : (laws : TableLaws) → (text : List ℕ) (fs : List Field) → Message LINK.now Ascending text fs → HasLinkParts text fs (link_parts text fs)
link_parts_told laws text fs m =
    let one : count_of fs 1 ≡ 1 = m.counts 0 any_rule (omega arith) in
    let two : count_of fs 2 ≤ 1 = m.counts 1 any_rule (omega arith) in
    let three : count_of fs 3 ≤ 1 = m.counts 2 any_rule (omega arith) in
    record {
      hash = laws.last_bytes.first_alone [] (bytes_at text 1 fs) (laws.values.all_bytes LINK.now text 1 fs (link_table laws) (rule_at LINK.now 0 (omega arith)) m.ruled ∙ one);
      name = laws.last_bytes.first_listed (bytes_at text 2 fs) (omega (arith, laws.values.count text 2 fs));
      tsize = laws.last_number.first_listed (numbers_at 3 fs) (omega (arith, laws.values.count text 3 fs));
    }

link_again : (text : List ℕ) (fs : List Field) (link : Link) → HasLinkParts text fs link → link_parts text fs ≡ link
link_again text fs link p =
    let hash : unwrap_or (first_of (bytes_at text 1 fs)) [] ≡ link.hash = ap (λ (xs : List (List ℕ)). unwrap_or (first_of xs) []) p.hash in
    let name : first_of (bytes_at text 2 fs) ≡ link.name = ap (λ (xs : List (List ℕ)). first_of xs) p.name ∙ first_listed link.name in
    let tsize : first_of (numbers_at 3 fs) ≡ link.tsize = ap (λ (xs : List ℕ). first_of xs) p.tsize ∙ first_listed link.tsize in
    ap (λ (h : List ℕ). let l : Link = record { hash = h; name = first_of (bytes_at text 2 fs); tsize = first_of (numbers_at 3 fs) } in l) hash
    ∙ ap₂ (λ (n : Option (List ℕ)) (t : Option ℕ). let l : Link = record { hash = link.hash; name = n; tsize = t } in l) name tsize

abbrev LinkTold : List ℕ → Result Link PbFault → Type 0
LinkTold text r = MatchResult r (λ link. LinkText link text) (λ e. HasCause LINK.now Ascending text e)

link_next_told : (laws : TableLaws) → (text : List ℕ) (r : Result (List Field) PbFault) → AreBytes text → fields_of LINK.now Ascending text ≡ r → LinkTold text (and_then r (λ fields. Ok (link_parts text fields)))
link_next_told laws text (Ok fields) are e =
    let m = (laws.messages.computed LINK.now Ascending text fields (link_table laws) are).0 e in
    record { fields = fields; message = m; parts = link_parts_told laws text fields m }
link_next_told laws text (Err fault) are e = (laws.messages.computed_fault LINK.now Ascending text fault (link_table laws) are).0 e

link_told : (laws : TableLaws) → (text : List ℕ) → AreBytes text → LinkTold text (link_in text)
unfolding link_in
link_told laws text are = link_next_told laws text (fields_of LINK.now Ascending text) are refl

link_ok : (laws : TableLaws) → (text : List ℕ) (link : Link) → AreBytes text → LinkText link text → link_in text ≡ Ok link
unfolding link_in
link_ok laws text link are h =
    ap (λ (r : Result (List Field) PbFault). and_then r (λ fields. Ok (link_parts text fields))) ((laws.messages.computed LINK.now Ascending text h.fields (link_table laws) are).1 h.message)
    ∙ ap (λ (l : Link). Ok l) (link_again text h.fields link h.parts)

link_fault : (laws : TableLaws) → (text : List ℕ) (fault : PbFault) → AreBytes text → HasCause LINK.now Ascending text fault → link_in text ≡ Err fault
unfolding link_in
link_fault laws text fault are h = ap (λ (r : Result (List Field) PbFault). and_then r (λ fields. Ok (link_parts text fields))) ((laws.messages.computed_fault LINK.now Ascending text fault (link_table laws) are).1 h)

-- ---- the links of fields

range_bytes : (text : List ℕ) (start end : ℕ) → AreBytes text → AreBytes (slice_range text start end)
range_bytes text start end are = All-take (λ (b : ℕ). b < 256) (end - start) (drop start text) (All-drop (λ (b : ℕ). b < 256) start text are)

links_here : (text : List ℕ) (f : Field) (fs : List Field) → f.number ≡ 2 → links_in text (f ∷ fs) ≡ with_link text f.value (links_in text fs)
links_here text f fs e = cond-true (f.number == 2) (with_link text f.value (links_in text fs)) (links_in text fs) (eq-eqb f.number 2 e)

links_other : (text : List ℕ) (f : Field) (fs : List Field) → f.number ≢ 2 → links_in text (f ∷ fs) ≡ links_in text fs
links_other text f fs e = cond-false (f.number == 2) (with_link text f.value (links_in text fs)) (links_in text fs) (ne_eqb f.number 2 e)

abbrev LinksTold : List ℕ → List Field → Result (List Link) PbFault → Type 0
LinksTold text fields r = MatchResult r (λ links. LinkTexts links (bytes_at text 2 fields)) (λ e. HasFirstBad text fields e)

-- a field with no bytes, or with those of a link, stands before the first that is none
bad_further : (laws : TableLaws) → (text : List ℕ) (f : Field) (fs : List Field) (e : PbFault) → All IsLinkText (bytes_at text 2 (f ∷ [])) → HasFirstBad text fs e → HasFirstBad text (f ∷ fs) e
bad_further laws text f fs e here h = record {
  before = f ∷ h.before;
  start = h.start;
  end = h.end;
  after = h.after;
  whole = ap (λ (xs : List Field). f ∷ xs) h.whole;
  earlier =
      subst (λ (ts : List (List ℕ)). All IsLinkText ts) (sym (laws.values.bytes_append text 2 (f ∷ []) h.before))
      (All-append IsLinkText (bytes_at text 2 (f ∷ [])) (bytes_at text 2 h.before) here h.earlier);
  bad = h.bad;
}

skipped : (laws : TableLaws) → (text : List ℕ) (f : Field) (fs : List Field) → bytes_at text 2 (f ∷ []) ≡ [] → bytes_at text 2 (f ∷ fs) ≡ bytes_at text 2 fs
skipped laws text f fs none = laws.values.bytes_append text 2 (f ∷ []) fs ∙ ap (λ (ts : List (List ℕ)). ts ++ bytes_at text 2 fs) none

taken : (laws : TableLaws) → (text : List ℕ) (f : Field) (fs : List Field) (bytes : List ℕ) → bytes_at text 2 (f ∷ []) ≡ bytes ∷ [] → bytes_at text 2 (f ∷ fs) ≡ bytes ∷ bytes_at text 2 fs
taken laws text f fs bytes one = laws.values.bytes_append text 2 (f ∷ []) fs ∙ ap (λ (ts : List (List ℕ)). ts ++ bytes_at text 2 fs) one

skip_told : (laws : TableLaws) → (text : List ℕ) (f : Field) (fs : List Field) (r : Result (List Link) PbFault) → bytes_at text 2 (f ∷ []) ≡ [] → LinksTold text fs r → LinksTold text (f ∷ fs) r
skip_told laws text f fs (Ok links) none h = subst (λ (ts : List (List ℕ)). LinkTexts links ts) (sym (skipped laws text f fs none)) h
skip_told laws text f fs (Err e) none h = bad_further laws text f fs e (subst (λ (ts : List (List ℕ)). All IsLinkText ts) (sym none) (All-nil IsLinkText)) h

-- the bytes of a field of number 2
number_bytes : (laws : TableLaws) → (text : List ℕ) (f : Field) (n : ℕ) → f.number ≡ 2 → f.value ≡ Number n → bytes_at text 2 (f ∷ []) ≡ []
number_bytes laws text f n is e = laws.values.bytes_here text 2 f [] is ∙ ap (λ (v : Value). bytes_in text v ++ []) e

place_bytes : (laws : TableLaws) → (text : List ℕ) (f : Field) (start end : ℕ) → f.number ≡ 2 → f.value ≡ Place start end → bytes_at text 2 (f ∷ []) ≡ slice_range text start end ∷ []
place_bytes laws text f start end is e = laws.values.bytes_here text 2 f [] is ∙ ap (λ (v : Value). bytes_in text v ++ []) e

link_step : (laws : TableLaws) → (text : List ℕ) (f : Field) (fs : List Field) (start end : ℕ) (q : Result Link PbFault) (r : Result (List Link) PbFault) → f ≡ placed start end → bytes_at text 2 (f ∷ []) ≡ slice_range text start end ∷ []
    → LinkTold (slice_range text start end) q → LinksTold text fs r → LinksTold text (f ∷ fs) (and_then (moved_to start q) (λ link. and_then r (λ links. Ok (link ∷ links))))
link_step laws text f fs start end (Ok link) (Ok links) is one h k = subst (λ (ts : List (List ℕ)). LinkTexts (link ∷ links) ts) (sym (taken laws text f fs (slice_range text start end) one)) (h, k)
link_step laws text f fs start end (Ok link) (Err e) is one h k =
    bad_further laws text f fs e (subst (λ (ts : List (List ℕ)). All IsLinkText ts) (sym one) (All-cons IsLinkText (slice_range text start end) [] (link, h) (All-nil IsLinkText))) k
link_step laws text f fs start end (Err e) r is one h k = record {
  before = [];
  start = start;
  end = end;
  after = fs;
  whole = ap (λ (x : Field). x ∷ fs) is;
  earlier = All-nil IsLinkText;
  bad = record { cause = e; cause_is = h; fault_is = refl };
}

here_told : (laws : TableLaws) → (text : List ℕ) (f : Field) (fs : List Field) (v : Value) (r : Result (List Link) PbFault) → AreBytes text → IsOfWire f.wire f.value → f.number ≡ 2 → f.value ≡ v → LinksTold text fs r → LinksTold text (f ∷ fs) (with_link text v r)
here_told laws text f fs (Number n) r are wire is e h = skip_told laws text f fs r (number_bytes laws text f n is e) h
here_told laws text f fs (Place start end) r are wire is e h =
    link_step laws text f fs start end (link_in (slice_range text start end)) r (placed_is f start end wire is e) (place_bytes laws text f start end is e)
    (link_told laws (slice_range text start end) (range_bytes text start end are)) h

links_told : (laws : TableLaws) → (text : List ℕ) (fields : List Field) → AreBytes text → AreRuled NODE.now fields → LinksTold text fields (links_in text fields)
links_told laws text [] are ruled = tt
links_told laws text (f ∷ fs) are ruled = elim (cases_eq f.number 2) [
  | inl is ↦ subst (λ (r : Result (List Link) PbFault). LinksTold text (f ∷ fs) r) (sym (links_here text f fs is)) (here_told laws text f fs f.value (links_in text fs) are (All-head (IsRuledField NODE.now) f fs ruled).of_wire is refl (links_told laws text fs are (All-tail (IsRuledField NODE.now) f fs ruled)))
  | inr other ↦ subst (λ (r : Result (List Link) PbFault). LinksTold text (f ∷ fs) r) (sym (links_other text f fs other)) (skip_told laws text f fs (links_in text fs) (laws.values.bytes_other text 2 f [] other) (links_told laws text fs are (All-tail (IsRuledField NODE.now) f fs ruled)))
]

-- ---- what the links of fields compute to

place_ok : (laws : TableLaws) → (text : List ℕ) (start end : ℕ) (link : Link) (r : Result (List Link) PbFault) → AreBytes text → LinkText link (slice_range text start end)
    → with_link text (Place start end) r ≡ and_then r (λ links. Ok (link ∷ links))
place_ok laws text start end link r are h =
    ap (λ (q : Result Link PbFault). and_then (moved_to start q) (λ l. and_then r (λ links. Ok (l ∷ links)))) (link_ok laws (slice_range text start end) link (range_bytes text start end are) h)

taken_ok : (laws : TableLaws) → (text : List ℕ) (start end : ℕ) (fs : List Field) (links : List Link) → AreBytes text → ((ls : List Link) → LinkTexts ls (bytes_at text 2 fs) → links_in text fs ≡ Ok ls) → LinkTexts links (slice_range text start end ∷ bytes_at text 2 fs)
    → with_link text (Place start end) (links_in text fs) ≡ Ok links
taken_ok laws text start end fs [] are rest h = absurd h
taken_ok laws text start end fs (l ∷ ls) are rest h =
    place_ok laws text start end l (links_in text fs) are h.0 ∙ ap (λ (r : Result (List Link) PbFault). and_then r (λ links. Ok (l ∷ links))) (rest ls h.1)

here_ok : (laws : TableLaws) → (text : List ℕ) (f : Field) (fs : List Field) (v : Value) (links : List Link) → AreBytes text → f.number ≡ 2 → f.value ≡ v → ((ls : List Link) → LinkTexts ls (bytes_at text 2 fs) → links_in text fs ≡ Ok ls) → LinkTexts links (bytes_at text 2 (f ∷ fs))
    → with_link text v (links_in text fs) ≡ Ok links
here_ok laws text f fs (Number n) links are is e rest h = rest links (subst (λ (ts : List (List ℕ)). LinkTexts links ts) (skipped laws text f fs (number_bytes laws text f n is e)) h)
here_ok laws text f fs (Place start end) links are is e rest h =
    taken_ok laws text start end fs links are rest (subst (λ (ts : List (List ℕ)). LinkTexts links ts) (taken laws text f fs (slice_range text start end) (place_bytes laws text f start end is e)) h)

none_ok : (links : List Link) → LinkTexts links [] → ◌≡◌ {A = Result (List Link) PbFault} (Ok []) (Ok links)
none_ok [] h = refl
none_ok (l ∷ ls) h = absurd h

links_ok : (laws : TableLaws) → (text : List ℕ) (fields : List Field) (links : List Link) → AreBytes text → LinkTexts links (bytes_at text 2 fields) → links_in text fields ≡ Ok links
links_ok laws text [] links are h = none_ok links h
links_ok laws text (f ∷ fs) links are h = elim (cases_eq f.number 2) [
  | inl is ↦ links_here text f fs is ∙ here_ok laws text f fs f.value links are is refl (λ ls k. links_ok laws text fs ls are k) h
  | inr other ↦ links_other text f fs other ∙ links_ok laws text fs links are (subst (λ (ts : List (List ℕ)). LinkTexts links ts) (laws.values.bytes_other text 2 f fs other) h)
]

here_bad : (laws : TableLaws) → (text : List ℕ) (f : Field) (before rest : List Field) (v : Value) (fault : PbFault) → AreBytes text → f.number ≡ 2 → f.value ≡ v → All IsLinkText (bytes_at text 2 (f ∷ before)) → (All IsLinkText (bytes_at text 2 before) → links_in text rest ≡ Err fault)
    → with_link text v (links_in text rest) ≡ Err fault
here_bad laws text f before rest (Number n) fault are is e h bad = bad (subst (λ (ts : List (List ℕ)). All IsLinkText ts) (skipped laws text f before (number_bytes laws text f n is e)) h)
here_bad laws text f before rest (Place start end) fault are is e h bad =
    let bytes = slice_range text start end in
    let all = subst (λ (ts : List (List ℕ)). All IsLinkText ts) (taken laws text f before bytes (place_bytes laws text f start end is e)) h in
    let first : IsLinkText bytes = All-head IsLinkText bytes (bytes_at text 2 before) all in
    place_ok laws text start end first.0 (links_in text rest) are first.1
    ∙ ap (λ (r : Result (List Link) PbFault). and_then r (λ links. Ok (first.0 ∷ links))) (bad (All-tail IsLinkText bytes (bytes_at text 2 before) all))

links_bad : (laws : TableLaws) → (text : List ℕ) (before : List Field) (start end : ℕ) (after : List Field) (cause : PbFault) → AreBytes text → All IsLinkText (bytes_at text 2 before) → HasCause LINK.now Ascending (slice_range text start end) cause
    → links_in text (before ++ placed start end ∷ after) ≡ Err (moved_by start cause)
links_bad laws text [] start end after cause are earlier h =
    links_here text (placed start end) after refl
    ∙ ap (λ (q : Result Link PbFault). and_then (moved_to start q) (λ l. and_then (links_in text after) (λ links. Ok (l ∷ links)))) (link_fault laws (slice_range text start end) cause (range_bytes text start end are) h)
links_bad laws text (f ∷ fs) start end after cause are earlier h =
    let rest = fs ++ placed start end ∷ after in
    elim (cases_eq f.number 2) [
      | inl is ↦ links_here text f rest is ∙ here_bad laws text f fs rest f.value (moved_by start cause) are is refl earlier (λ all. links_bad laws text fs start end after cause are all h)
      | inr other ↦ links_other text f rest other ∙ links_bad laws text fs start end after cause are (subst (λ (ts : List (List ℕ)). All IsLinkText ts) (laws.values.bytes_other text 2 f fs other) earlier) h
    ]

-- ---- the node

abbrev NodeTold : List ℕ → Result Node PbFault → Type 0
NodeTold text r = MatchResult r (λ node. NodeText node text) (λ e. HasNodeCause text e)

with_links_told : (laws : TableLaws) → (text : List ℕ) (fields : List Field) (r : Result (List Link) PbFault) → Message NODE.now Runs text fields → LinksTold text fields r → NodeTold text (with_links text fields r)
with_links_told laws text fields (Ok links) m h =
    let one : count_of fields 1 ≤ 1 = m.counts 0 any_rule (omega arith) in
    record { fields = fields; message = m; parts = record { links = h; payload = laws.last_bytes.first_listed (bytes_at text 1 fields) (omega (arith, laws.values.count text 1 fields)) } }
with_links_told laws text fields (Err e) m h = inr (bad_link_there text fields e m h)

with_fields_told : (laws : TableLaws) → (text : List ℕ) (r : Result (List Field) PbFault) → AreBytes text → fields_of NODE.now Runs text ≡ r → NodeTold text (with_fields text r)
with_fields_told laws text (Ok fields) are e =
    let m = (laws.messages.computed NODE.now Runs text fields (node_table laws) are).0 e in
    with_links_told laws text fields (links_in text fields) m (links_told laws text fields are m.ruled)
with_fields_told laws text (Err fault) are e = inl ((laws.messages.computed_fault NODE.now Runs text fault (node_table laws) are).0 e)

node_told : (laws : TableLaws) → (text : List ℕ) → AreBytes text → NodeTold text (node_of text)
unfolding node_of
node_told laws text are = with_fields_told laws text (fields_of NODE.now Runs text) are refl

message_is : (laws : TableLaws) → (text : List ℕ) (fields : List Field) → AreBytes text → Message NODE.now Runs text fields → node_of text ≡ with_links text fields (links_in text fields)
unfolding node_of
message_is laws text fields are m = ap (with_fields text) ((laws.messages.computed NODE.now Runs text fields (node_table laws) are).1 m)

fault_is : (laws : TableLaws) → (text : List ℕ) (fault : PbFault) → AreBytes text → HasCause NODE.now Runs text fault → node_of text ≡ Err fault
unfolding node_of
fault_is laws text fault are h = ap (with_fields text) ((laws.messages.computed_fault NODE.now Runs text fault (node_table laws) are).1 h)

node_ok : (laws : TableLaws) → (text : List ℕ) (node : Node) → AreBytes text → NodeText node text → node_of text ≡ Ok node
node_ok laws text node are h =
    let payload : first_of (bytes_at text 1 h.fields) ≡ node.payload = ap (λ (xs : List (List ℕ)). first_of xs) h.parts.payload ∙ first_listed node.payload in
    message_is laws text h.fields are h.message
    ∙ ap (with_links text h.fields) (links_ok laws text h.fields node.links are h.parts.links)
    ∙ ap (λ (p : Option (List ℕ)). let r : Result Node PbFault = Ok (record { links = node.links; payload = p }) in r) payload

cause_is : (laws : TableLaws) → (text : List ℕ) (fault : PbFault) → AreBytes text → HasNodeCause text fault → node_of text ≡ Err fault
cause_is laws text fault are (inl h) = fault_is laws text fault are h
cause_is laws text fault are (inr h) =
    let fields = h.before ++ placed h.start h.end ∷ h.after in
    message_is laws text fields are h.message
    ∙ ap (with_links text fields) (links_bad laws text h.before h.start h.end h.after h.cause are h.earlier h.cause_is)
    ∙ ap (λ (e : PbFault). let r : Result Node PbFault = Err e in r) (sym h.fault_is)

pub node_law : (laws : TableLaws) → (text : List ℕ) (node : Node) → All (λ (b : ℕ). b < 256) text → (node_of text ≡ Ok node) ↔ NodeText node text
node_law laws text node are = (
  λ e. subst (λ (r : Result Node PbFault). NodeTold text r) e (node_told laws text are),
  λ h. node_ok laws text node are h,
)

pub node_fault_law : (laws : TableLaws) → (text : List ℕ) (fault : PbFault) → All (λ (b : ℕ). b < 256) text → (node_of text ≡ Err fault) ↔ HasNodeCause text fault
node_fault_law laws text fault are = (
  λ e. subst (λ (r : Result Node PbFault). NodeTold text r) e (node_told laws text are),
  λ h. cause_is laws text fault are h,
)
