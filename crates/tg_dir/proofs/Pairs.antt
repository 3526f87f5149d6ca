-- Entries with the DAGs to which they lead, in any order.
use Rattle.std.proofs.Common.{◌≡◌, ℕ, zero, suc, ◌<◌, List, [], ◌∷◌, length, get_or, set, refl, ap, ap₂, sym, ◌∙◌, subst, ⊎_elim, arith}
use Rattle.std.specs.List.{swap}
use Rattle.std.specs.List.Sorted.{IsPermutation}
use Rattle.std.specs.Prelude.{All, Contains, map}
use Rattle.std.proofs.lemmas.List.{get_or-map, length-map, map-set}
use Rattle.std.proofs.lemmas.List.Edits.{swap_is}
use Rattle.std.proofs.lemmas.List.Elements.{All-cons, All-nil, Contains-append_cases, Contains-append_left, Contains-append_right}
use Rattle.std.proofs.lemmas.List.Sorted.{IsPermutation-keeps, IsPermutation-refl, IsPermutation-swap, IsPermutation-trans}
use Rattle.tg_hamt.specs.Directories.{AreLaidOut, AreSound, listed_for}
use Rattle.tg_model.specs.Content.{DirEntry}
use Rattle.tg_model.specs.Dag.{Children, Dag, Section, blocks, blocks_of_children, no_child, root_cid, with_child}
use Rattle.tg_model.specs.ImportLayout.{IsLaidAt, LayoutOptions, tsize_of}
use Rattle.tg_model.specs.Sound.{IsSound, top}
use Rattle.tg_model.specs.declared.kinds.NewEntry.{NewEntry}
use Rattle.tg_node_writing.specs.Nodes.{LeadTo}

-- an entry with a DAG
pub record EntryDag : Type 0 where
  pub entry : NewEntry
  pub dag : Dag

-- to which it leads, and which is sound
pub record IsLed (pair : EntryDag) : Type 0 where
  pub cid : pair.entry.cid ≡ root_cid pair.dag
  pub tsize : pair.entry.tsize ≡ tsize_of pair.dag
  pub sound : IsSound pair.dag

abbrev pub pairs_of : List NewEntry → Children → List EntryDag
pairs_of [] children = []
pairs_of (entry ∷ es) no_child = []
pairs_of (entry ∷ es) (with_child d children) = record { entry = entry; dag = d } ∷ pairs_of es children

abbrev pub entries_in : List EntryDag → List NewEntry
entries_in pairs = map (λ pair. pair.entry) pairs

abbrev pub children_in : List EntryDag → Children
children_in [] = no_child
children_in (pair ∷ pairs) = with_child pair.dag (children_in pairs)

abbrev pub listed : EntryDag → DirEntry
listed pair = record { name = pair.entry.name; dag = pair.dag }

pub all_led : (es : List NewEntry) (children : Children) → LeadTo es children → AreSound children → All IsLed (pairs_of es children)
all_led [] children lead sound = All-nil IsLed
all_led (e ∷ es) no_child lead sound = absurd lead
all_led (e ∷ es) (with_child d children) lead sound =
    All-cons IsLed (record { entry = e; dag = d }) (pairs_of es children) (record { cid = lead.0; tsize = lead.1; sound = sound.0 }) (all_led es children lead.2 sound.1)

pub entries_are : (es : List NewEntry) (children : Children) → LeadTo es children → entries_in (pairs_of es children) ≡ es
entries_are [] children lead = refl
entries_are (e ∷ es) no_child lead = absurd lead
entries_are (e ∷ es) (with_child d children) lead = ap (λ (l : List NewEntry). e ∷ l) (entries_are es children lead.2)

pub listed_are : (es : List NewEntry) (children : Children) → map listed (pairs_of es children) ≡ listed_for es children
listed_are [] children = refl
listed_are (e ∷ es) no_child = refl
listed_are (e ∷ es) (with_child d children) = ap (λ (l : List DirEntry). record { name = e.name; dag = d } ∷ l) (listed_are es children)

pub all_laid : (options : LayoutOptions) (es : List NewEntry) (children : Children) → AreLaidOut options children
    → All (λ pair. IsLaidAt options top pair.dag) (pairs_of es children)
all_laid options [] children laid = All-nil (λ (pair : EntryDag). IsLaidAt options top pair.dag)
all_laid options (e ∷ es) no_child laid = All-nil (λ (pair : EntryDag). IsLaidAt options top pair.dag)
all_laid options (e ∷ es) (with_child d children) laid =
    All-cons (λ (pair : EntryDag). IsLaidAt options top pair.dag) (record { entry = e; dag = d }) (pairs_of es children) laid.0 (all_laid options es children laid.1)

-- a block is one of the DAGs
pub record IsOfPair (pairs : List EntryDag) (block : Section) : Type 0 where
  pub pair : EntryDag
  pub among : Contains pairs pair
  pub has : Contains (blocks pair.dag) block

pub of_pair : (pairs : List EntryDag) (block : Section) → Contains (blocks_of_children (children_in pairs)) block → IsOfPair pairs block
of_pair [] block has = absurd (omega (arith, has.1))
of_pair (pair ∷ pairs) block has = ⊎_elim
    (λ (here : Contains (blocks pair.dag) block). record { pair = pair; among = Contains-append_left (pair ∷ []) pairs pair (0, omega arith, refl); has = here })
    (λ (there : Contains (blocks_of_children (children_in pairs)) block).
    let rest = of_pair pairs block there in
    record { pair = rest.pair; among = Contains-append_right (pair ∷ []) pairs rest.pair rest.among; has = rest.has })
    (Contains-append_cases (blocks pair.dag) (blocks_of_children (children_in pairs)) block has)

pub block_in : (pairs : List EntryDag) (pair : EntryDag) (block : Section) → Contains pairs pair → Contains (blocks pair.dag) block
    → Contains (blocks_of_children (children_in pairs)) block
block_in [] pair block among has = absurd (omega (arith, among.1))
block_in (first ∷ pairs) pair block among has = ⊎_elim
    (λ (here : Contains (first ∷ []) pair).
    let same : first ≡ pair = only first pair here in
    Contains-append_left (blocks first.dag) (blocks_of_children (children_in pairs)) block
    (subst (λ (p : EntryDag). Contains (blocks p.dag) block) (sym same) has))
    (λ (there : Contains pairs pair).
    Contains-append_right (blocks first.dag) (blocks_of_children (children_in pairs)) block (block_in pairs pair block there has))
    (Contains-append_cases (first ∷ []) pairs pair among)
  where
    only : (x y : EntryDag) → Contains (x ∷ []) y → x ≡ y
    only x y h = at h.0 h.1 h.2
      where
        at : (k : ℕ) → k < 1 → get_or (x ∷ []) k y ≡ y → x ≡ y
        at zero lt e = e
        at (suc k) lt e = absurd (omega arith)

pub children_are : (es : List NewEntry) (children : Children) → LeadTo es children → children_in (pairs_of es children) ≡ children
children_are [] no_child lead = refl
children_are [] (with_child d children) lead = absurd lead
children_are (e ∷ es) no_child lead = absurd lead
children_are (e ∷ es) (with_child d children) lead = ap (with_child d) (children_are es children lead.2)

-- ---- the entries in another order

map_swap : {A B : Type 0} (f : A → B) (xs : List A) (i j : ℕ) → i < length xs → j < length xs → map f (swap xs i j) ≡ swap (map f xs) i j
map_swap f [] i j p q = absurd (omega arith)
map_swap f (x ∷ xs) i j p q =
    let l = x ∷ xs in
    let count = length-map l f in
    ap (map f) (sym (swap_is l i j x p q))
    ∙ map-set f (set l i (get_or l j x)) j (get_or l i x)
    ∙ ap₂ (λ (ys : List _) (y : _). set ys j y) (map-set f l i (get_or l j x) ∙ ap (λ (y : _). set (map f l) i y) (sym (get_or-map f l j x (f x) q))) (sym (get_or-map f l i x (f x) p))
    ∙ swap_is (map f l) i j (f x) (omega arith) (omega arith)

-- the pairs in the order of these entries
pub record IsInOrder (pairs : List EntryDag) (es : List NewEntry) : Type 0 where
  pub moved : List EntryDag
  pub permutation : IsPermutation pairs moved
  pub entries : entries_in moved ≡ es

swapped : (pairs : List EntryDag) (es : List NewEntry) (i j : ℕ) → i < length es → j < length es → IsInOrder pairs es → IsInOrder pairs (swap es i j)
swapped pairs es i j p q h =
    let count = length-map h.moved (λ (pair : EntryDag). pair.entry) in
    let same = ap length h.entries in
    let first : i < length h.moved = omega arith in
    let second : j < length h.moved = omega arith in
    record {
      moved = swap h.moved i j;
      permutation = IsPermutation-trans pairs h.moved (swap h.moved i j) h.permutation (IsPermutation-swap h.moved (swap h.moved i j) i j first second refl);
      entries = map_swap (λ (pair : EntryDag). pair.entry) h.moved i j first second ∙ ap (λ (l : List NewEntry). swap l i j) h.entries;
    }

pub in_order : (pairs : List EntryDag) (es : List NewEntry) → IsPermutation (entries_in pairs) es → IsInOrder pairs es
in_order pairs es h =
    IsPermutation-keeps (entries_in pairs) (IsInOrder pairs) (record { moved = pairs; permutation = IsPermutation-refl pairs; entries = refl })
    (λ l i j p q k. swapped pairs l i j p q k) es h
