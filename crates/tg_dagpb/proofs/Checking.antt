-- What is known of a block as its fields are read one after another.
use Rattle.std.proofs.Common.{◌≡◌, ℕ, ◌≤◌, true, false, Option, Some, None, Result, Ok, Err, List, [], ◌∷◌, ◌++◌, refl, sym, ap, ap₂, ◌∙◌, append_assoc, subst, arith}
use Rattle.std.specs.Prelude.{All, slice_range, MatchOption, MatchResult, is_some}
use Rattle.std.specs.Result.{result_ok, result_err}
use Rattle.std.proofs.lemmas.List.Elements.{All-nil, All-cons, All-head, All-tail, All-append, All-contains, Contains-append_right}
use Rattle.tg_pbtable.specs.declared.table.Field.{Field}
use Rattle.tg_pbtable.specs.declared.table.Order.TheVariants.{Runs}
use Rattle.tg_pbtable.specs.declared.fault.PbFault.{PbFault}
use Rattle.tg_pbtable.specs.declared.table.Rule.{Rule}
use Rattle.tg_pbtable.specs.declared.table.Wire.{Wire}
use Rattle.tg_pbtable.specs.declared.table.Wire.TheVariants.{Bytes}
use Rattle.tg_pbtable.specs.declared.table.Value.{Value}
use Rattle.tg_pbtable.specs.declared.table.Value.TheVariants.{Place}
use Rattle.tg_pbtable.specs.Message.{Message, IsOfWire, IsRuledField, AreRuled, count_of}
use Rattle.tg_pbtable.specs.Values.{bytes_at, later}
use Rattle.tg_pbtable.specs.Place.{placed_bytes}
use Rattle.tg_pbtable.specs.declared.table.Place as places
use Rattle.tg_pbtable.specs.Laws.{TableLaws}
use Rattle.tg_pbtable.specs.TableRules.{any_rule, place_wire}
use Rattle.tg_dagpb.specs.declared.TheConstants.{NODE}
use Rattle.tg_dagpb.specs.declared.Link.{Link}
use Rattle.tg_dagpb.specs.declared.LinkPlaces.{LinkPlaces}
use Rattle.tg_dagpb.specs.declared.Node.{Node}
use Rattle.tg_dagpb.specs.Node.{LinkText, LinkTexts, NodeText}
use Rattle.tg_dagpb.specs.Cursor.{HasPayloadAt, placed_link}
use Rattle.tg_dagpb.specs.Faults.{IsLinkText, HasBadLink}
use Rattle.tg_dagpb.specs.Reading.{placed, IsLinkBetween, IsBadPlace, IsBadField, HasFirstBad, IsVerdict}
use Rattle.tg_dagpb.proofs.Causes.{link_has_none}
use Rattle.tg_dagpb.proofs.Same.{one_node}

-- ---- one field

-- bytes of number 2 are a link's
pub placed_is : (f : Field) (start end : ℕ) → IsOfWire f.wire f.value → f.number ≡ 2 → f.value ≡ Place start end → f ≡ placed start end
placed_is f start end wire is e =
    let bytes : f.wire ≡ Bytes = place_wire f.wire start end (subst (λ (v : Value). IsOfWire f.wire v) e wire) in
    ap₂ (λ (n : ℕ) (v : Value). let x : Field = record { number = n; wire = f.wire; value = v } in x) is e
    ∙ ap (λ (w : Wire). let x : Field = record { number = 2; wire = w; value = Place start end } in x) bytes

-- the last of fields under rules has a value of its wire type
pub last_wire : (rules : List Rule) (fs : List Field) (f : Field) → AreRuled rules (fs ++ f ∷ []) → IsOfWire f.wire f.value
last_wire rules fs f h = (All-contains (IsRuledField rules) (fs ++ f ∷ []) f h (Contains-append_right fs (f ∷ []) f (0, omega arith, refl))).of_wire

-- ---- the verdict on one field more

bad_later : (text : List ℕ) (fs : List Field) (f : Field) (fault : PbFault) → HasFirstBad text fs fault → HasFirstBad text (fs ++ f ∷ []) fault
bad_later text fs f fault h = record {
  before = h.before;
  start = h.start;
  end = h.end;
  after = h.after ++ f ∷ [];
  whole = ap (λ (t : List Field). t ++ f ∷ []) h.whole ∙ append_assoc h.before (placed h.start h.end ∷ h.after) (f ∷ []);
  earlier = h.earlier;
  bad = h.bad;
}

bad_now : (text : List ℕ) (fs : List Field) (f : Field) (fault : PbFault) → All IsLinkText (bytes_at text 2 fs) → IsBadField text f fault → HasFirstBad text (fs ++ f ∷ []) fault
bad_now text fs f fault all b = record {
  before = fs;
  start = b.start;
  end = b.end;
  after = [];
  whole = ap (λ (x : Field). fs ++ x ∷ []) b.field_is;
  earlier = all;
  bad = b.bad;
}

links_more : (laws : TableLaws) → (text : List ℕ) (fs : List Field) (f : Field) → All IsLinkText (bytes_at text 2 fs) → All IsLinkText (bytes_at text 2 (f ∷ [])) → All IsLinkText (bytes_at text 2 (fs ++ f ∷ []))
links_more laws text fs f a b = subst (λ (t : List (List ℕ)). All IsLinkText t) (sym (laws.values.bytes_append text 2 fs (f ∷ []))) (All-append IsLinkText (bytes_at text 2 fs) (bytes_at text 2 (f ∷ [])) a b)

pub verdict_more : (laws : TableLaws) → (text : List ℕ) (fs : List Field) (f : Field) (old new : Option PbFault) → is_some old ≡ false → IsVerdict text fs old
    → MatchOption new (All IsLinkText (bytes_at text 2 (f ∷ []))) (λ fault. IsBadField text f fault) → IsVerdict text (fs ++ f ∷ []) new
verdict_more laws text fs f None None e v h = links_more laws text fs f v h
verdict_more laws text fs f None (Some fault) e v h = bad_now text fs f fault v h
verdict_more laws text fs f (Some fault) new e v h = absurd (cc)

pub verdict_kept : (text : List ℕ) (fs : List Field) (f : Field) (bad : Option PbFault) → is_some bad ≡ true → IsVerdict text fs bad → IsVerdict text (fs ++ f ∷ []) bad
verdict_kept text fs f None some v = absurd (cc)
verdict_kept text fs f (Some fault) some v = bad_later text fs f fault v

-- ---- at the end of the text

links_of : (texts : List (List ℕ)) → All IsLinkText texts → (links : List Link) × LinkTexts links texts
links_of [] h = ([], tt)
links_of (t ∷ texts) h =
    let here = All-head IsLinkText t texts h in
    let rest = links_of texts (All-tail IsLinkText t texts h) in
    (here.0 ∷ rest.0, (here.1, rest.1))

pub payload_more : (laws : TableLaws) → (text : List ℕ) (fs : List Field) (f : Field) (old new : Option (List ℕ)) → old ≡ later None (bytes_at text 1 fs) → new ≡ later old (bytes_at text 1 (f ∷ []))
    → new ≡ later None (bytes_at text 1 (fs ++ f ∷ []))
payload_more laws text fs f old new p q =
    laws.last_bytes.later_more None old new (bytes_at text 1 fs) (bytes_at text 1 (f ∷ [])) (bytes_at text 1 (fs ++ f ∷ [])) (laws.values.bytes_append text 1 fs (f ∷ [])) p q

pub payload_there : (laws : TableLaws) → (text : List ℕ) (fs : List Field) (place : Option places.Place) → Message NODE.now Runs text fs → All IsLinkText (bytes_at text 2 fs) → placed_bytes text place ≡ later None (bytes_at text 1 fs)
    → HasPayloadAt text place
payload_there laws text fs place m all e =
    let one : count_of fs 1 ≤ 1 = m.counts 0 any_rule (omega arith) in
    let links = links_of (bytes_at text 2 fs) all in
    record {
      node = record { links = links.0; payload = placed_bytes text place };
      is_text = record {
        fields = fs;
        message = m;
        parts = record { links = links.1; payload = laws.last_bytes.at_most_one (bytes_at text 1 fs) (placed_bytes text place) (omega (arith, laws.values.count text 1 fs)) e };
      };
      payload_is = refl;
    }

pub payload_only : (laws : TableLaws) → (text : List ℕ) (place : Option places.Place) (h : HasPayloadAt text place) (node : Node) → NodeText node text → placed_bytes text place ≡ node.payload
payload_only laws text place h node p = h.payload_is ∙ ap (λ (n : Node). n.payload) (one_node laws text h.node node h.is_text p)

pub bad_link_there : (text : List ℕ) (fs : List Field) (fault : PbFault) → Message NODE.now Runs text fs → HasFirstBad text fs fault → HasBadLink text fault
bad_link_there text fs fault m h = record {
  before = h.before;
  start = h.start;
  end = h.end;
  after = h.after;
  message = subst (λ (t : List Field). Message NODE.now Runs text t) h.whole m;
  earlier = h.earlier;
  cause = h.bad.cause;
  cause_is = h.bad.cause_is;
  fault_is = h.bad.fault_is;
}

-- ---- what the reading of a link says of its field

abbrev IsRead : List ℕ → ℕ → ℕ → Result LinkPlaces PbFault → Type 0
IsRead text start end r = MatchResult r (λ places. IsLinkBetween text start end places) (λ fault. IsBadPlace text start end fault)

pub link_verdict : (text : List ℕ) (f : Field) (start end : ℕ) (r : Result LinkPlaces PbFault) (o : Option PbFault) → o ≡ result_err r → f ≡ placed start end → IsRead text start end r
    → MatchOption o (All IsLinkText (bytes_at text 2 (f ∷ []))) (λ fault. IsBadField text f fault)
link_verdict text f start end (Ok places) None e is h =
    subst (λ (g : Field). All IsLinkText (bytes_at text 2 (g ∷ []))) (sym is) (All-cons IsLinkText (slice_range text start end) [] (placed_link text places, h.is_text) (All-nil IsLinkText))
link_verdict text f start end (Ok places) (Some fault) e is h = absurd (cc)
link_verdict text f start end (Err fault) None e is h = absurd (cc)
link_verdict text f start end (Err fault) (Some g) e is h =
    let same : g ≡ fault = cc in
    record { start = start; end = end; field_is = is; bad = subst (λ (x : PbFault). IsBadPlace text start end x) (sym same) h }

pub link_there : (text : List ℕ) (start end : ℕ) (r : Result LinkPlaces PbFault) (places : LinkPlaces) → result_ok r ≡ Some places → IsRead text start end r → IsLinkBetween text start end places
link_there text start end (Ok x) places e h =
    let same : x ≡ places = cc in
    subst (λ (y : LinkPlaces). IsLinkBetween text start end y) same h
link_there text start end (Err fault) places e h = absurd (cc)

pub link_not_there : (laws : TableLaws) → (text : List ℕ) (start end : ℕ) (r : Result LinkPlaces PbFault) (link : Link) → result_ok r ≡ None → IsRead text start end r → LinkText link (slice_range text start end) → ⊥
link_not_there laws text start end (Ok x) link e h p = cc
link_not_there laws text start end (Err fault) link e h p = link_has_none laws (slice_range text start end) link h.cause p h.cause_is
