-- Forests that are linked level by level, with the sections that are kept meanwhile.
use Rattle.std.proofs.Common.{◌≡◌, ◌+◌, ◌-◌, ◌<◌, ◌≤◌, ℕ, List, [], ◌∷◌, ◌++◌, length, take, drop, get_or, refl, sym, ap, ◌∙◌, subst, inl, inr, arith, append_assoc, length-append}
use Rattle.std.specs.Prelude.{slice_index}
use Rattle.std.proofs.lemmas.Bool.{cases_lt}
use Rattle.std.proofs.lemmas.List.{append-nil, get_or-take, get_or_append_left, length-take-le}
use Rattle.tg_cid.specs.declared.cid.Codec.TheVariants.{DagPb, Raw}
use Rattle.tg_filedag.proofs.Closings.{BeginsAt, IsOpen, MayClose, closed, closed_file, full_height, growing_closing, level_height, low_height, lowest_above, lowest_few, lowest_height, may_close, none_full, opened, raised}
use Rattle.tg_filedag.proofs.Falling.{at_end}
use Rattle.tg_filedag.proofs.Files.{made_file}
use Rattle.tg_filedag.proofs.Meanwhile.{Closed, Raised}
use Rattle.tg_node_writing.specs.KeepingSteps.{Joins, keeps_both, keeps_nothing, stops_behind}
use Rattle.tg_filedag.proofs.Parts.{NodeLaws}
use Rattle.tg_filedag.proofs.Shapes.{HaveHeight, full_last, leaf_subtree}
use Rattle.tg_filedag.proofs.Steps.{heights_closed, heights_count, leaf_pushed}
use Rattle.tg_node_writing.specs.Keeping.{Keeps, StopsAfter, section_of}
use Rattle.tg_filedag.specs.Linking.{Closes, HasFullLevel, MakesFile, Raises, StopsLeaf, StopsLinking, TakesLeaf}
use Rattle.tg_filedag.specs.MadeFile.{IsMadeFile}
use Rattle.tg_filedag.specs.State.{HasNoFullLevel, IsClosing, IsFrontFor, IsGrowing, heights}
use Rattle.tg_filedag.specs.Trees.{AreTrees, IsSubtree, bottom_up, bottom_up_of_children, leaf_made, leaf_of}
use Rattle.tg_filedag.specs.declared.subtree.Subtree.{Subtree}
use Rattle.tg_model_laws.specs.Stores.{KeepingJoins}
use Rattle.tg_model.specs.Dag.{Children, Dag, Section, no_child, with_child}
use Rattle.tg_model.specs.ImportLayout.{leaves_of_children}
use Rattle.tg_model.specs.Stores.{KeepMeaning, Keeping, kept_in}
use Rattle.tg_model.specs.declared.kinds.Made.{Made}
use Rattle.tg_model.specs.declared.stores.KeepFault.{KeepFault}

-- a fault behind sections that were kept
pub stops_here : {S : Type 0} → (m : KeepMeaning S) → Joins m → KeepingJoins → (a b c : S) (width : ℕ) (ss : List Subtree) (chunks : List (List ℕ)) (kept sections : List Section)
    (fault : KeepFault) → Keeps sections (kept_in m a b) → IsClosing width ss chunks (kept ++ sections) → StopsAfter [] fault (kept_in m b c)
    → (more : List Section) × StopsAfter more fault (kept_in m a c) × IsFrontFor width chunks kept more
stops_here m joins stores a b c width ss chunks kept sections fault keeps closing stop = (
  sections,
  subst (λ (s : List Section). StopsAfter s fault (kept_in m a c)) (append-nil sections) (stops_behind m joins stores a b c sections [] fault keeps stop),
  inr (ss, closing),
)

-- ---- full levels

pub raise_init : {S : Type 0} → (m : KeepMeaning S) → ((s : S) → m.kept s s []) → (s : S) (width : ℕ) (ss : List Subtree) (chunks : List (List ℕ)) (kept : List Section)
    → IsGrowing width ss chunks kept → Raised m s s width ss chunks kept
raise_init m rests s width ss chunks kept f = record {
  sections = [];
  keeps = keeps_nothing m rests s;
  forest = subst (IsGrowing width ss chunks) (sym (append-nil kept)) f;
}

-- what linking the full level needs, and what it makes
pub raise_needs : {S : Type 0} → (m : KeepMeaning S) (a b : S) (width start height : ℕ) (ss : List Subtree) (chunks : List (List ℕ)) (kept : List Section)
    → Raised m a b width ss chunks kept → HasFullLevel width ss → start ≡ length ss - width → height ≡ slice_index (heights ss) start
    → (height < 1099511627776) × MayClose ss start
raise_needs m a b width start height ss chunks kept r full at is =
    let f = r.forest in
    let level : HaveHeight height (drop start ss) =
    subst (λ (h : ℕ). HaveHeight h (drop start ss)) (sym is)
    (subst (λ (n : ℕ). HaveHeight (slice_index (heights ss) n) (drop n ss)) (sym at) (level_height width ss chunks (kept ++ r.sections) f full)) in
    let bound = full_height width height ss chunks (kept ++ r.sections) f full (subst (λ (n : ℕ). HaveHeight height (drop n ss)) at level) in
    let low = f.low in
    let enough = full.enough in
    (bound, may_close width start height ss chunks (kept ++ r.sections) (growing_closing width ss chunks (kept ++ r.sections) f) (omega arith) level (omega arith) (omega arith))

pub raise_next : NodeLaws → {S : Type 0} → (m : KeepMeaning S) → Joins m → KeepingJoins → (a b c : S) (width start height : ℕ) (ss new : List Subtree)
    (chunks : List (List ℕ)) (kept : List Section) → Raised m a b width ss chunks kept → HasFullLevel width ss → start ≡ length ss - width
    → height ≡ slice_index (heights ss) start → Closes ss start (height + 1) new (kept_in m b c) → Raised m a c width new chunks kept
raise_next laws m joins stores a b c width start height ss new chunks kept r full at is closes =
    let step : Closes ss (length ss - width) (slice_index (heights ss) (length ss - width) + 1) new (kept_in m b c) =
    subst (λ (n : ℕ). Closes ss n (slice_index (heights ss) n + 1) new (kept_in m b c)) at
    (subst (λ (h : ℕ). Closes ss start (h + 1) new (kept_in m b c)) is closes) in
    let more : List Section = section_of DagPb step.kept.block ∷ [] in
    record {
      sections = r.sections ++ more;
      keeps = keeps_both m joins stores a b c r.sections more r.keeps step.kept.keeps;
      forest = subst (IsGrowing width new chunks) (append_assoc kept r.sections more)
          (raised laws width ss chunks (kept ++ r.sections) new (kept_in m b c) r.forest full step);
    }

pub raise_smaller : (width start height : ℕ) (ss new : List Subtree) (keeping : Keeping) → 2 ≤ width → HasFullLevel width ss → start ≡ length ss - width
    → Closes ss start height new keeping → length new < length ss
raise_smaller width start height ss new keeping two full at c =
    let enough = full.enough in
    let front = length-take-le start ss (omega arith) in
    let size : length new ≡ length (take start ss) + 1 = ap length c.new_is ∙ length-append (take start ss) (record { height = height; made = c.made } ∷ []) in
    omega arith

pub raise_done : {S : Type 0} → (m : KeepMeaning S) (a b : S) (width : ℕ) (ss : List Subtree) (chunks : List (List ℕ)) (kept : List Section)
    → Raised m a b width ss chunks kept → (HasFullLevel width ss → ⊥)
    → (sections : List Section) × Keeps sections (kept_in m a b) × IsGrowing width ss chunks (kept ++ sections) × HasNoFullLevel width ss
raise_done m a b width ss chunks kept r none = (r.sections, r.keeps, r.forest, none_full width ss chunks (kept ++ r.sections) r.forest none)

-- ---- a leaf

pub leaf_taken : {S : Type 0} → (m : KeepMeaning S) → Joins m → KeepingJoins → (a c d : S) (width : ℕ) (ss pushed new : List Subtree) (chunk : List ℕ)
    → Keeps (section_of Raw chunk ∷ []) (kept_in m a c) → pushed ≡ ss ++ record { height = 0; made = leaf_made chunk } ∷ []
    → HasNoFullLevel width ss → Raises width pushed new (kept_in m c d) → TakesLeaf width ss new chunk (kept_in m a d)
leaf_taken m joins stores a c d width ss pushed new chunk keeps is levels raises chunks kept f room =
    let first : List Section = section_of Raw chunk ∷ [] in
    let forest = subst (λ (t : List Subtree). IsGrowing width t (chunks ++ chunk ∷ []) (kept ++ first)) (sym is) (leaf_pushed width ss chunk chunks kept f levels room) in
    let rest = raises (chunks ++ chunk ∷ []) (kept ++ first) forest in
    (first ++ rest.0, keeps_both m joins stores a c d first rest.0 keeps rest.1, subst (IsGrowing width new (chunks ++ chunk ∷ [])) (append_assoc kept first rest.0) rest.2, rest.3)

-- a fault behind the leaf
behind_leaf : (width : ℕ) (ss : List Subtree) (chunks : List (List ℕ)) (kept first sections : List Section) → IsGrowing width ss chunks (kept ++ first)
    → IsFrontFor width chunks (kept ++ first) sections → IsFrontFor width chunks kept (first ++ sections)
behind_leaf width ss chunks kept first sections f (inl none) =
    inr (
      ss,
      subst (λ (s : List Section). IsClosing width ss chunks (kept ++ (first ++ s))) (sym none)
          (subst (λ (s : List Section). IsClosing width ss chunks (kept ++ s)) (sym (append-nil first)) (growing_closing width ss chunks (kept ++ first) f)),
    )
behind_leaf width ss chunks kept first sections f (inr more) =
    inr (more.0, subst (IsClosing width more.0 chunks) (append_assoc kept first sections) more.1)

pub leaf_stops : {S : Type 0} → (m : KeepMeaning S) → Joins m → KeepingJoins → (a c d : S) (width : ℕ) (ss pushed : List Subtree) (chunk : List ℕ) (fault : KeepFault)
    → Keeps (section_of Raw chunk ∷ []) (kept_in m a c) → pushed ≡ ss ++ record { height = 0; made = leaf_made chunk } ∷ [] → HasNoFullLevel width ss
    → StopsLinking width pushed fault (kept_in m c d) → StopsLeaf width ss chunk fault (kept_in m a d)
leaf_stops m joins stores a c d width ss pushed chunk fault keeps is levels stops chunks kept f room =
    let first : List Section = section_of Raw chunk ∷ [] in
    let forest = subst (λ (t : List Subtree). IsGrowing width t (chunks ++ chunk ∷ []) (kept ++ first)) (sym is) (leaf_pushed width ss chunk chunks kept f levels room) in
    let rest = stops (chunks ++ chunk ∷ []) (kept ++ first) forest in (
      first ++ rest.0,
      stops_behind m joins stores a c d first rest.0 fault keeps rest.1,
      behind_leaf width pushed (chunks ++ chunk ∷ []) kept first rest.0 forest rest.2,
    )

-- a fault at once
pub at_once : {S : Type 0} → (m : KeepMeaning S) → (a b : S) (width : ℕ) (ss : List Subtree) (fault : KeepFault) → StopsAfter [] fault (kept_in m a b)
    → StopsLinking width ss fault (kept_in m a b)
at_once m a b width ss fault stop chunks kept f = ([], stop, inl refl)

-- ---- the file

pub close_init : {S : Type 0} → (m : KeepMeaning S) → ((s : S) → m.kept s s []) → (s : S) (width : ℕ) (ss : List Subtree) (chunks : List (List ℕ)) (kept : List Section)
    → IsGrowing width ss chunks kept → 0 < length ss → Closed m s s width ss chunks kept
close_init m rests s width ss chunks kept f some = record {
  sections = [];
  keeps = keeps_nothing m rests s;
  forest = subst (IsOpen width ss chunks) (sym (append-nil kept)) (opened width ss chunks kept f some);
}

-- what linking the lowest level needs, and what it makes
pub close_needs : {S : Type 0} → (m : KeepMeaning S) (a b : S) (width start height : ℕ) (ss : List Subtree) (chunks : List (List ℕ)) (kept : List Section)
    → Closed m a b width ss chunks kept → BeginsAt ss start → 1 < length ss → height ≡ slice_index (heights ss) (length ss - 1)
    → (height < 1099511627776) × MayClose ss start
close_needs m a b width start height ss chunks kept r begins many is =
    let f = r.forest.forest in
    let all = kept ++ r.sections in
    let bound = low_height width ss chunks all f many in
    let level = subst (λ (h : ℕ). HaveHeight h (drop start ss)) (sym is) (lowest_height width start ss chunks all f begins) in
    (omega arith, may_close width start height ss chunks all f begins.inside level (lowest_few width start ss chunks all f begins) (omega arith))

pub close_next : NodeLaws → {S : Type 0} → (m : KeepMeaning S) → Joins m → KeepingJoins → (a b c : S) (width start height : ℕ) (ss new : List Subtree)
    (chunks : List (List ℕ)) (kept : List Section) → Closed m a b width ss chunks kept → BeginsAt ss start → 1 < length ss
    → height ≡ slice_index (heights ss) (length ss - 1) → Closes ss start (height + 1) new (kept_in m b c) → Closed m a c width new chunks kept
close_next laws m joins stores a b c width start height ss new chunks kept r begins many is closes =
    let step : Closes ss start (slice_index (heights ss) (length ss - 1) + 1) new (kept_in m b c) =
    subst (λ (h : ℕ). Closes ss start (h + 1) new (kept_in m b c)) is closes in
    let more : List Section = section_of DagPb step.kept.block ∷ [] in
    record {
      sections = r.sections ++ more;
      keeps = keeps_both m joins stores a b c r.sections more r.keeps step.kept.keeps;
      forest = subst (IsOpen width new chunks) (append_assoc kept r.sections more)
          (closed laws width start ss chunks (kept ++ r.sections) new (kept_in m b c) r.forest begins many step);
    }

-- the measure of linking level by level: how many subtrees there are, and how much lower the last stands than the first
abbrev pub left_over : List Subtree → ℕ
left_over ss = length ss + (slice_index (heights ss) 0 - slice_index (heights ss) (length ss - 1))

first_new : (hs : List ℕ) (start h : ℕ) → start ≤ length hs → slice_index (take start hs ++ h ∷ []) start ≡ h
first_new hs start h le = at_end (take start hs) h start (sym (length-take-le start hs le))

pub close_smaller : (width start height : ℕ) (ss new : List Subtree) (chunks : List (List ℕ)) (kept : List Section) (keeping : Keeping) → IsClosing width ss chunks kept
    → BeginsAt ss start → 1 < length ss → height ≡ slice_index (heights ss) (length ss - 1) → Closes ss start (height + 1) new keeping → left_over new < left_over ss
close_smaller width start height ss new chunks kept keeping f begins many is c =
    let s : Subtree = record { height = height + 1; made = c.made } in
    let inside = begins.inside in
    let count = heights_count ss in
    let hs = heights ss in
    let front = length-take-le start ss (omega arith) in
    let size : length new ≡ length (take start ss) + 1 = ap length c.new_is ∙ length-append (take start ss) (s ∷ []) in
    let names : heights new ≡ take start hs ++ (height + 1) ∷ [] = ap heights c.new_is ∙ heights_closed ss start s in
    let last_place : length new - 1 ≡ start = omega arith in
    let last : slice_index (heights new) (length new - 1) ≡ height + 1 =
    ap (λ (n : ℕ). slice_index (heights new) n) last_place ∙ ap (λ (t : List ℕ). slice_index t start) names ∙ first_new hs start (height + 1) (omega arith) in
    elim (cases_lt 0 start) [
      | inl some ↦
          let above = lowest_above width start ss chunks kept f begins some in
          let down = f.falls 0 (start - 1) (omega arith) (omega arith) in
          let first : slice_index (heights new) 0 ≡ slice_index hs 0 =
          ap (λ (t : List ℕ). slice_index t 0) names ∙ get_or_append_left (take start hs) ((height + 1) ∷ []) 0 0 (let e = length-take-le start hs (omega arith) in omega arith)
          ∙ get_or-take start hs 0 0 some in
          omega arith
      | inr none ↦
          let start_is : start ≡ 0 = omega arith in
          let first : slice_index (heights new) 0 ≡ height + 1 = ap (λ (n : ℕ). slice_index (heights new) n) (sym start_is ∙ sym last_place) ∙ last in
          omega arith
    ]

pub close_done : {S : Type 0} → (m : KeepMeaning S) (a b : S) (width : ℕ) (ss : List Subtree) (chunks : List (List ℕ)) (kept : List Section) (r : Subtree)
    → Closed m a b width ss chunks kept → length ss ≤ 1
    → (sections : List Section) × (d : Dag) × Keeps sections (kept_in m a b) × IsMadeFile width chunks d (get_or ss 0 r).made × (kept ++ sections ≡ bottom_up d)
close_done m a b width ss chunks kept r f one =
    let some = f.forest.some in
    let file = closed_file width ss chunks (kept ++ f.sections) r f.forest (omega arith) in
    (f.sections, file.0, f.keeps, file.1, file.2)

-- ---- the file of no chunk

none_kept : (width : ℕ) (ds : Children) (chunks : List (List ℕ)) (kept : List Section) → AreTrees (IsSubtree width) width [] ds → leaves_of_children ds ≡ chunks
    → bottom_up_of_children ds ≡ kept → (chunks ≡ []) × (kept ≡ [])
none_kept width no_child chunks kept h l k = (sym l, sym k)
none_kept width (with_child d ds) chunks kept h l k = absurd h

empty_file : (width : ℕ) (chunks : List (List ℕ)) → 0 < width → chunks ≡ [] → IsMadeFile width chunks (leaf_of []) (leaf_made [])
empty_file width chunks some e =
    subst (λ (cs : List (List ℕ)). IsMadeFile width cs (leaf_of []) (leaf_made [])) (sym e)
    (made_file width (record { height = 0; made = leaf_made [] }) (leaf_of []) [] (full_last width some _ (leaf_of []) (leaf_subtree width [])) (inl (section_of Raw [], refl)) refl)

pub empty_made : (width : ℕ) (ss : List Subtree) (made : Made) (keeping : Keeping) → ss ≡ [] → made ≡ leaf_made [] → Keeps (section_of Raw [] ∷ []) keeping
    → MakesFile width ss made keeping
empty_made width ss made keeping e is keeps chunks kept f =
    let low = f.low in
    let g : IsGrowing width [] chunks kept = subst (λ (t : List Subtree). IsGrowing width t chunks kept) e f in
    let none = none_kept width g.trees chunks kept g.stand g.chunks_are g.kept_are in
    let more : List Section = section_of Raw [] ∷ [] in
    (more, leaf_of [], keeps, subst (IsMadeFile width chunks (leaf_of [])) (sym is) (empty_file width chunks (omega arith) none.0), ap (λ (t : List Section). t ++ more) none.1)
