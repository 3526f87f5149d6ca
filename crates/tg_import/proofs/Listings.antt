-- What a directory has of its entries: their blocks, what they count, and what they show.
use Rattle.std.proofs.Common.{◌≡◌, ⊎_elim, ℕ, List, None, Option, Some, [], ◌∷◌, ◌++◌, get_or, refl, ap, sym, ◌∙◌, subst, arith}
use Rattle.std.specs.Prelude.{Contains, map}
use Rattle.std.proofs.lemmas.List.Elements.{Contains-append_cases, Contains-append_left, Contains-append_right}
use Rattle.tg_bytes.specs.Lists.{none_in}
use Rattle.tg_import.specs.Counting.{counts_inside, counts_of, counts_of_children, counts_of_slots, nothing, plus, slot_counts}
use Rattle.tg_import.specs.declared.summary.Summary.{Summary}
use Rattle.tg_model.specs.Content.{DirEntry, entries, entries_of_slots, named_children, slot_entries}
use Rattle.tg_model.specs.Dag.{AreWhole, Children, Dag, IsWhole, Section, bare, blocks, blocks_of_children, no_child, node, unopened, with_child}
use Rattle.tg_model.specs.ShowsTree.{EntriesShow, Shows, ShowsInside, SlotShows, SlotsShow}
use Rattle.tg_model.specs.Sound.{AreCheckedAt, IsCheckedAt, child, position_by_name, slot_position, top}
use Rattle.tg_model.specs.declared.kinds.Entry.{Entry}
use Rattle.tg_model.specs.declared.kinds.Kind.TheVariants.{Basic, File, Raw, Shard, Symlink}
use Rattle.tg_model.specs.declared.kinds.Slot.{Slot}
use Rattle.tg_tree.specs.Tree.{child as child_named}
use Rattle.tg_tree.specs.declared.tree.Tree.{Tree}

-- ---- lists

pub only_one : {X : Type 0} → (x y : X) → Contains (x ∷ []) y → x ≡ y
only_one x y has =
    let first : has.0 ≡ 0 = omega (arith, has.1) in
    ap (λ (k : ℕ). get_or (x ∷ []) k y) (sym first) ∙ has.2

pub first_is : {X : Type 0} → (x : X) (xs : List X) → Contains (x ∷ xs) x
first_is x xs = (0, omega arith, refl)

-- ---- blocks

slot_blocks : (own : Option (List ℕ)) (d : Dag) (e : DirEntry) (s : Section) → (Contains (entries d) e → Contains (blocks d) s) → Contains (slot_entries own d (entries d)) e → Contains (blocks e.dag) s
    → Contains (blocks d) s
slot_blocks (Some name) d e s inside has inner =
    subst (λ (x : DirEntry). Contains (blocks x.dag) s) (sym (only_one (record { name = name; dag = d }) e has)) inner
slot_blocks None d e s inside has inner = inside has

mutual
  -- a block of what an entry leads to is one of the directory's
  pub entry_blocks : (d : Dag) (e : DirEntry) (s : Section) → Contains (entries d) e → Contains (blocks e.dag) s → Contains (blocks d) s
  entry_blocks (unopened cid) e s has inner = absurd (none_in e has)
  entry_blocks (bare section fault) e s has inner = absurd (none_in e has)
  entry_blocks (node section Raw children) e s has inner = absurd (none_in e has)
  entry_blocks (node section (File inline filesize parts) children) e s has inner = absurd (none_in e has)
  entry_blocks (node section (Basic es) children) e s has inner =
      Contains-append_right (section ∷ []) (blocks_of_children children) s (named_blocks es children e s has inner)
  entry_blocks (node section (Shard slots) children) e s has inner =
      Contains-append_right (section ∷ []) (blocks_of_children children) s (slots_blocks slots children e s has inner)
  entry_blocks (node section (Symlink target) children) e s has inner = absurd (none_in e has)

  named_blocks : (es : List Entry) (children : Children) (e : DirEntry) (s : Section) → Contains (named_children es children) e → Contains (blocks e.dag) s → Contains (blocks_of_children children) s
  named_blocks es no_child e s has inner = absurd (none_in e has)
  named_blocks [] (with_child d children) e s has inner = absurd (none_in e has)
  named_blocks (entry ∷ es) (with_child d children) e s has inner = ⊎_elim
      (λ (here : Contains (record { name = entry.name; dag = d } ∷ []) e).
      Contains-append_left (blocks d) (blocks_of_children children) s
      (subst (λ (x : DirEntry). Contains (blocks x.dag) s) (sym (only_one (record { name = entry.name; dag = d }) e here)) inner))
      (λ (there : Contains (named_children es children) e). Contains-append_right (blocks d) (blocks_of_children children) s (named_blocks es children e s there inner))
      (Contains-append_cases (record { name = entry.name; dag = d } ∷ []) (named_children es children) e has)

  slots_blocks : (slots : List Slot) (children : Children) (e : DirEntry) (s : Section) → Contains (entries_of_slots slots children) e → Contains (blocks e.dag) s → Contains (blocks_of_children children) s
  slots_blocks slots no_child e s has inner = absurd (none_in e has)
  slots_blocks [] (with_child d children) e s has inner = absurd (none_in e has)
  slots_blocks (slot ∷ slots) (with_child d children) e s has inner = ⊎_elim
      (λ (here : Contains (slot_entries slot.name d (entries d)) e). Contains-append_left (blocks d) (blocks_of_children children) s (slot_blocks slot.name d e s (λ h. entry_blocks d e s h inner) here inner))
      (λ (there : Contains (entries_of_slots slots children) e). Contains-append_right (blocks d) (blocks_of_children children) s (slots_blocks slots children e s there inner))
      (Contains-append_cases (slot_entries slot.name d (entries d)) (entries_of_slots slots children) e has)

-- ---- what is counted

pub same_summary : (a b : Summary) → a.files ≡ b.files → a.folders ≡ b.folders → a.shards ≡ b.shards → a.bytes ≡ b.bytes → a ≡ b
same_summary a b files folders shards bytes = λ k. record { files = files k; folders = folders k; shards = shards k; bytes = bytes k }

pub plus_nothing : (a : Summary) → plus a nothing ≡ a
plus_nothing a = same_summary (plus a nothing) a (omega arith) (omega arith) (omega arith) (omega arith)

pub plus_assoc : (a b c : Summary) → plus (plus a b) c ≡ plus a (plus b c)
plus_assoc a b c = same_summary (plus (plus a b) c) (plus a (plus b c)) (omega arith) (omega arith) (omega arith) (omega arith)

-- what entries count together
abbrev pub counted_in : List DirEntry → Summary
counted_in [] = nothing
counted_in (e ∷ listed) = plus (counts_of e.dag) (counted_in listed)

counted_append : (a b : List DirEntry) → counted_in (a ++ b) ≡ plus (counted_in a) (counted_in b)
counted_append [] b = same_summary (counted_in b) (plus nothing (counted_in b)) (omega arith) (omega arith) (omega arith) (omega arith)
counted_append (e ∷ a) b = ap (plus (counts_of e.dag)) (counted_append a b) ∙ sym (plus_assoc (counts_of e.dag) (counted_in a) (counted_in b))

pub named_counts : (es : List Entry) (children : Children) → AreCheckedAt (map (λ entry. top) es) children → counts_of_children children ≡ counted_in (named_children es children)
named_counts es no_child h = refl
named_counts [] (with_child d children) h = absurd h
named_counts (entry ∷ es) (with_child d children) h = ap (plus (counts_of d)) (named_counts es children h.1)

slot_counted : (above : List ℕ) (own : Option (List ℕ)) (d : Dag) → (IsCheckedAt (child above) d → counts_inside d ≡ counted_in (entries d)) → IsCheckedAt (position_by_name above own) d
    → slot_counts own (counts_of d) (counts_inside d) ≡ counted_in (slot_entries own d (entries d))
slot_counted above (Some name) d inside h = sym (plus_nothing (counts_of d))
slot_counted above None d inside h = inside h

mutual
  pub slots_counts : (above : List ℕ) (slots : List Slot) (children : Children) → AreWhole children → AreCheckedAt (map (slot_position above) slots) children
      → counts_of_slots slots children ≡ counted_in (entries_of_slots slots children)
  slots_counts above slots no_child w h = refl
  slots_counts above [] (with_child d children) w h = absurd h
  slots_counts above (slot ∷ slots) (with_child d children) w h =
      ap (λ (s : Summary). plus s (counts_of_slots slots children)) (slot_counted (above ++ slot.slot ∷ []) slot.name d (λ k. inside_counts (above ++ slot.slot ∷ []) d w.0 k) h.0)
      ∙ ap (plus (counted_in (slot_entries slot.name d (entries d)))) (slots_counts above slots children w.1 h.1)
      ∙ sym (counted_append (slot_entries slot.name d (entries d)) (entries_of_slots slots children))

  inside_counts : (above : List ℕ) (d : Dag) → IsWhole d → IsCheckedAt (child above) d → counts_inside d ≡ counted_in (entries d)
  inside_counts above (unopened cid) w h = absurd w
  inside_counts above (bare section fault) w h = absurd w
  inside_counts above (node section Raw children) w h = refl
  inside_counts above (node section (File inline filesize parts) children) w h = refl
  inside_counts above (node section (Basic es) children) w h = (let wrong = h.0.stands in absurd (cc))
  inside_counts above (node section (Shard slots) children) w h = slots_counts above slots children w h.1
  inside_counts above (node section (Symlink target) children) w h = refl

-- ---- what is shown

-- an entry shows what has its name in the folder
abbrev pub IsShown : Tree → DirEntry → Type 0
IsShown tree e = (below : Tree) × (child_named tree e.name ≡ Some below) × Shows e.dag below

pub entries_show : (es : List Entry) (children : Children) (tree : Tree) → ((e : DirEntry) → Contains (named_children es children) e → IsShown tree e) → EntriesShow es children tree
entries_show es no_child tree shown = tt
entries_show [] (with_child d children) tree shown = tt
entries_show (entry ∷ es) (with_child d children) tree shown = (
  shown (record { name = entry.name; dag = d }) (first_is (record { name = entry.name; dag = d }) (named_children es children)),
  entries_show es children tree (λ e has. shown e (Contains-append_right (record { name = entry.name; dag = d } ∷ []) (named_children es children) e has)),
)

slot_shows : (above : List ℕ) (own : Option (List ℕ)) (d : Dag) (tree : Tree) → (IsCheckedAt (child above) d → ((e : DirEntry) → Contains (entries d) e → IsShown tree e) → ShowsInside d tree)
    → IsCheckedAt (position_by_name above own) d → ((e : DirEntry) → Contains (slot_entries own d (entries d)) e → IsShown tree e)
    → SlotShows (λ name. (below : Tree) × (child_named tree name ≡ Some below) × Shows d below) (ShowsInside d tree) own
slot_shows above (Some name) d tree inside h shown = shown (record { name = name; dag = d }) (first_is (record { name = name; dag = d }) [])
slot_shows above None d tree inside h shown = inside h shown

mutual
  pub slots_show : (above : List ℕ) (slots : List Slot) (children : Children) (tree : Tree) → AreWhole children → AreCheckedAt (map (slot_position above) slots) children
      → ((e : DirEntry) → Contains (entries_of_slots slots children) e → IsShown tree e) → SlotsShow slots children tree
  slots_show above slots no_child tree w h shown = tt
  slots_show above [] (with_child d children) tree w h shown = tt
  slots_show above (slot ∷ slots) (with_child d children) tree w h shown = (
    slot_shows (above ++ slot.slot ∷ []) slot.name d tree (λ k more. inside_shows (above ++ slot.slot ∷ []) d tree w.0 k more) h.0
        (λ e has. shown e (Contains-append_left (slot_entries slot.name d (entries d)) (entries_of_slots slots children) e has)),
    slots_show above slots children tree w.1 h.1
        (λ e has. shown e (Contains-append_right (slot_entries slot.name d (entries d)) (entries_of_slots slots children) e has)),
  )

  inside_shows : (above : List ℕ) (d : Dag) (tree : Tree) → IsWhole d → IsCheckedAt (child above) d → ((e : DirEntry) → Contains (entries d) e → IsShown tree e) → ShowsInside d tree
  inside_shows above (unopened cid) tree w h shown = absurd w
  inside_shows above (bare section fault) tree w h shown = absurd w
  inside_shows above (node section Raw children) tree w h shown = (let wrong = h.0.stands in absurd (cc))
  inside_shows above (node section (File inline filesize parts) children) tree w h shown = (let wrong = h.0.stands in absurd (cc))
  inside_shows above (node section (Basic es) children) tree w h shown = (let wrong = h.0.stands in absurd (cc))
  inside_shows above (node section (Shard slots) children) tree w h shown = slots_show above slots children tree w h.1 shown
  inside_shows above (node section (Symlink target) children) tree w h shown = (let wrong = h.0.stands in absurd (cc))
