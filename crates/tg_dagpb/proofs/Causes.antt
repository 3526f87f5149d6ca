-- A text that is a node's has no cause of a fault, and a text has one.
use Rattle.std.proofs.Common.{◌≡◌, ℕ, List, [], ◌∷◌, ◌++◌, sym, ap, ap₂, ◌∙◌, subst, inl, inr}
use Rattle.std.specs.Prelude.{All, slice_range}
use Rattle.std.proofs.lemmas.List.Elements.{All-nil, All-cons, All-head}
use Rattle.tg_pbtable.specs.declared.table.Field.{Field}
use Rattle.tg_pbtable.specs.declared.table.Value.TheVariants.{Place}
use Rattle.tg_pbtable.specs.declared.table.Order.TheVariants.{Ascending, Runs}
use Rattle.tg_pbtable.specs.declared.fault.PbFault.{PbFault}
use Rattle.tg_pbtable.specs.Faults.{HasCause, moved_by}
use Rattle.tg_pbtable.specs.Values.{bytes_at}
use Rattle.tg_pbtable.specs.Laws.{TableLaws}
use Rattle.tg_bytes.specs.Lists.{All-split}
use Rattle.tg_dagpb.specs.declared.TheConstants.{NODE, LINK}
use Rattle.tg_dagpb.specs.declared.Link.{Link}
use Rattle.tg_dagpb.specs.declared.Node.{Node}
use Rattle.tg_dagpb.specs.Node.{LinkText, LinkTexts, NodeText}
use Rattle.tg_dagpb.specs.Faults.{IsLinkText, HasBadLink, HasNodeCause}
use Rattle.tg_dagpb.specs.Reading.{placed}
use Rattle.tg_dagpb.proofs.Parts.{node_table, link_table}

-- ---- links

pub link_has_none : (laws : TableLaws) → (text : List ℕ) (link : Link) (fault : PbFault) → LinkText link text → HasCause LINK.now Ascending text fault → ⊥
link_has_none laws text link fault p h = laws.messages.no_cause LINK.now Ascending text p.fields fault (link_table laws) p.message h

pub all_links : (links : List Link) (texts : List (List ℕ)) → LinkTexts links texts → All IsLinkText texts
all_links [] [] h = All-nil IsLinkText
all_links [] (t ∷ texts) h = absurd h
all_links (a ∷ links) [] h = absurd h
all_links (a ∷ links) (t ∷ texts) h = All-cons IsLinkText t texts (a, h.0) (all_links links texts h.1)

bytes_there : (laws : TableLaws) → (text : List ℕ) (before after : List Field) (start end : ℕ) → bytes_at text 2 (before ++ placed start end ∷ after) ≡ bytes_at text 2 before ++ (slice_range text start end ∷ bytes_at text 2 after)
bytes_there laws text before after start end = laws.values.bytes_append text 2 before (placed start end ∷ after)

-- ---- a node has no cause

pub bad_link_in : (laws : TableLaws) → (text : List ℕ) (node : Node) (fault : PbFault) → NodeText node text → HasBadLink text fault → ⊥
bad_link_in laws text node fault p h =
    let fields : p.fields ≡ h.before ++ placed h.start h.end ∷ h.after = laws.messages.one_reading 0 text p.fields (h.before ++ placed h.start h.end ∷ h.after) p.message.spelled h.message.spelled in
    let all = all_links node.links (bytes_at text 2 p.fields) p.parts.links in
    let there : All IsLinkText (bytes_at text 2 h.before ++ (slice_range text h.start h.end ∷ bytes_at text 2 h.after)) =
    subst (λ (t : List (List ℕ)). All IsLinkText t) (ap (bytes_at text 2) fields ∙ bytes_there laws text h.before h.after h.start h.end) all in
    let here = All-head IsLinkText (slice_range text h.start h.end) (bytes_at text 2 h.after) (All-split IsLinkText (bytes_at text 2 h.before) (slice_range text h.start h.end ∷ bytes_at text 2 h.after) there).1 in
    link_has_none laws (slice_range text h.start h.end) here.0 h.cause here.1 h.cause_is

pub node_has_none : (laws : TableLaws) → (text : List ℕ) (node : Node) (fault : PbFault) → NodeText node text → HasNodeCause text fault → ⊥
node_has_none laws text node fault p h = elim h [
  | inl own ↦ laws.messages.no_cause NODE.now Runs text p.fields fault (node_table laws) p.message own
  | inr bad ↦ bad_link_in laws text node fault p bad
]

-- ---- a text has one cause

record SamePlace (start end from to : ℕ) : Type 0 where
  starts : start ≡ from
  ends : end ≡ to

one_place : (i j k l : ℕ) → Place i j ≡ Place k l → SamePlace i j k l
one_place i j k l e = record { starts = cc; ends = cc }

not_bad : (laws : TableLaws) → (text : List ℕ) (start end : ℕ) (cause : PbFault) (fields : List Field) → All IsLinkText (bytes_at text 2 (placed start end ∷ fields)) → HasCause LINK.now Ascending (slice_range text start end) cause → ⊥
not_bad laws text start end cause fields all h =
    let here = All-head IsLinkText (slice_range text start end) (bytes_at text 2 fields) all in
    link_has_none laws (slice_range text start end) here.0 cause here.1 h

rest_links : (laws : TableLaws) → (text : List ℕ) (f : Field) (fs : List Field) → All IsLinkText (bytes_at text 2 (f ∷ fs)) → All IsLinkText (bytes_at text 2 fs)
rest_links laws text f fs h = (All-split IsLinkText (bytes_at text 2 (f ∷ [])) (bytes_at text 2 fs) (subst (λ (t : List (List ℕ)). All IsLinkText t) (laws.values.bytes_append text 2 (f ∷ []) fs) h)).1

first_bad : (laws : TableLaws) → (text : List ℕ) (bs cs xs ys : List Field) (i j k l : ℕ) (c d : PbFault) → bs ++ placed i j ∷ xs ≡ cs ++ placed k l ∷ ys
    → All IsLinkText (bytes_at text 2 bs) → All IsLinkText (bytes_at text 2 cs)
    → HasCause LINK.now Ascending (slice_range text i j) c → HasCause LINK.now Ascending (slice_range text k l) d → SamePlace i j k l
first_bad laws text [] [] xs ys i j k l c d e p q h g =
    let here : placed i j ≡ placed k l = cc in
    one_place i j k l (ap (λ (f : Field). f.value) here)
first_bad laws text [] (f ∷ cs) xs ys i j k l c d e p q h g =
    let here : f ≡ placed i j = cc in
    absurd (not_bad laws text i j c cs (subst (λ (x : Field). All IsLinkText (bytes_at text 2 (x ∷ cs))) here q) h)
first_bad laws text (f ∷ bs) [] xs ys i j k l c d e p q h g =
    let here : f ≡ placed k l = cc in
    absurd (not_bad laws text k l d bs (subst (λ (x : Field). All IsLinkText (bytes_at text 2 (x ∷ bs))) here p) g)
first_bad laws text (f ∷ bs) (f' ∷ cs) xs ys i j k l c d e p q h g =
    let tail : bs ++ placed i j ∷ xs ≡ cs ++ placed k l ∷ ys = cc in
    first_bad laws text bs cs xs ys i j k l c d tail (rest_links laws text f bs p) (rest_links laws text f' cs q) h g

moved_same : (laws : TableLaws) → (text : List ℕ) (i j k l : ℕ) (c d : PbFault) → SamePlace i j k l → HasCause LINK.now Ascending (slice_range text i j) c → HasCause LINK.now Ascending (slice_range text k l) d
    → moved_by i c ≡ moved_by k d
moved_same laws text i j k l c d e h g =
    let there : HasCause LINK.now Ascending (slice_range text k l) c = subst (λ (n : ℕ). HasCause LINK.now Ascending (slice_range text k n) c) e.ends (subst (λ (n : ℕ). HasCause LINK.now Ascending (slice_range text n j) c) e.starts h) in
    ap₂ moved_by e.starts (laws.messages.one_cause LINK.now Ascending (slice_range text k l) c d (link_table laws) there g)

one_bad : (laws : TableLaws) → (text : List ℕ) (a b : PbFault) → HasBadLink text a → HasBadLink text b → a ≡ b
one_bad laws text a b p q =
    let fields = laws.messages.one_reading 0 text (p.before ++ placed p.start p.end ∷ p.after) (q.before ++ placed q.start q.end ∷ q.after) p.message.spelled q.message.spelled in
    let same = first_bad laws text p.before q.before p.after q.after p.start p.end q.start q.end p.cause q.cause fields p.earlier q.earlier p.cause_is q.cause_is in
    p.fault_is ∙ moved_same laws text p.start p.end q.start q.end p.cause q.cause same p.cause_is q.cause_is ∙ sym q.fault_is

pub one_node_cause : (laws : TableLaws) → (text : List ℕ) (a b : PbFault) → HasNodeCause text a → HasNodeCause text b → a ≡ b
one_node_cause laws text a b p q = elim p [
  | inl own ↦ elim q [
    | inl other ↦ laws.messages.one_cause NODE.now Runs text a b (node_table laws) own other
    | inr bad ↦ absurd (laws.messages.no_cause NODE.now Runs text (bad.before ++ placed bad.start bad.end ∷ bad.after) a (node_table laws) bad.message own)
  ]
  | inr bad ↦ elim q [
    | inl own ↦ absurd (laws.messages.no_cause NODE.now Runs text (bad.before ++ placed bad.start bad.end ∷ bad.after) b (node_table laws) bad.message own)
    | inr other ↦ one_bad laws text a b bad other
  ]
]
