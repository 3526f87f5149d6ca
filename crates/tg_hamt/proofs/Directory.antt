-- A sharded directory from its entries.
use Rattle.std.proofs.Common.{nat_eq, eq-eqb, ◌≡◌, ◌≢◌, ◌⊎◌, inl, inr, ⊎_elim, ℕ, zero, suc, ◌+◌, ◌<◌, true, false, List, [], ◌∷◌, length, get_or, refl, ap, sym, ◌∙◌, subst, arith}
use Rattle.std.specs.List.{IsDistinct, sum_by}
use Rattle.std.specs.List.Sorted.{IsPermutation}
use Rattle.std.specs.Ordering.{is_lt}
use Rattle.std.specs.declared.cmp.Ordering.{Ordering}
use Rattle.std.specs.declared.cmp.Ordering.TheVariants.{Less, Equal, Greater}
use Rattle.std.specs.Prelude.{All, Contains, bytes_eq, map}
use Rattle.std.proofs.lemmas.Bool.{cases_order, ne_eqb}
use Rattle.std.proofs.lemmas.Bool.Decides.{eqb_tells}
use Rattle.std.proofs.lemmas.List.{get_or-map, length-map, get_or_default}
use Rattle.std.proofs.lemmas.List.Elements.{All-cons, All-contains, All-head, All-tail, Contains-append_left, Contains-append_right, Contains-get_or}
use Rattle.std.proofs.lemmas.List.Sorted.{All-permutation, Contains-permutation, IsPermutation-map, length_permutation, sum_by-IsPermutation}
use Rattle.std.proofs.lemmas.List.Sums.{sum_by-cons}
use Rattle.std.proofs.lemmas.Map.Keys.{IsDistinct-IsPermutation, IsDistinct-from_apart, apart_from_distinct}
use Rattle.tg_bytes.specs.Order.{bytes_cmp}
use Rattle.tg_bytes.specs.OrderLaws.{less_apart}
use Rattle.tg_hamt.specs.Directories.{AreLaidOut, AreSound, HaveSameHash, IsCause, IsPairFault, IsOfSharded, MakesSharded, StopsSharded, listed_for}
use Rattle.tg_hamt.specs.NameLaws.{other_names}
use Rattle.tg_hamt.specs.Order.{IsHashed, IsOrder, IsSortedOrder, Rises, entry_at, hashed_from, no_entry, tsizes_in}
use Rattle.tg_hamt.specs.Shards.{IsBelow, IsOfShard, LeadsTo, MakesShard, StopsShard, listed_as}
use Rattle.tg_hamt.specs.declared.fault.HamtFault.TheVariants as faults
use Rattle.tg_hamt.specs.declared.fault.HamtFault.{HamtFault}
use Rattle.tg_node_writing.specs.BlockOrder.{entry_cids}
use Rattle.tg_node_writing.specs.BlockOrderLaws.{behind_nothing}
use Rattle.tg_hamt.specs.declared.order.Hashed.{Hashed}
use Rattle.tg_model.specs.Content.{DirEntry, entries}
use Rattle.tg_model.specs.Dag.{Children, Dag, Section, blocks, blocks_of_children, no_child, node, root_cid, unopened, with_child}
use Rattle.tg_model.specs.ImportLayout.{IsLaidAt, LayoutOptions, tsize_of}
use Rattle.tg_model.specs.Sound.{IsSound, top}
use Rattle.tg_model.specs.Stores.{Keeping}
use Rattle.tg_model.specs.declared.kinds.Kind.TheVariants.{Shard}
use Rattle.tg_model.specs.declared.kinds.Made.{Made}
use Rattle.tg_model.specs.declared.kinds.NewEntry.{NewEntry}
use Rattle.tg_model.specs.declared.stores.KeepFault.{KeepFault}
use Rattle.tg_model.specs.declared.stores.KeepFault.TheVariants.{OutOfMemory}
use Rattle.tg_node_writing.specs.Keeping.{Keeps, StopsAfter}
use Rattle.tg_murmur.specs.NameHash.{name_hash}
use Rattle.tg_node_writing.specs.Nodes.{LeadTo}

-- ---- the DAG of each entry

pub child_at : Children → ℕ → Dag
child_at no_child i = unopened no_entry.cid
child_at (with_child d children) zero = d
child_at (with_child d children) (suc i) = child_at children i

-- an entry leads to its DAG
leads_at : (es : List NewEntry) (children : Children) (i : ℕ) → LeadTo es children → AreSound children → i < length es
    → ((entry_at es i).cid ≡ root_cid (child_at children i)) × ((entry_at es i).tsize ≡ tsize_of (child_at children i)) × IsSound (child_at children i)
unfolding child_at
leads_at [] children i lead sound lt = absurd (omega arith)
leads_at (e ∷ es) no_child i lead sound lt = absurd lead
leads_at (e ∷ es) (with_child d children) zero lead sound lt = (lead.0, lead.1, sound.0)
leads_at (e ∷ es) (with_child d children) (suc i) lead sound lt = leads_at es children i lead.2 sound.1 (omega arith)

-- ---- hashes with their indices

pub length_hashed : (n : ℕ) (es : List NewEntry) → length (hashed_from n es) ≡ length es
length_hashed n [] = refl
length_hashed n (e ∷ es) = (let rest = length_hashed (n + 1) es in omega (arith, rest))

abbrev hashed_at : List NewEntry → ℕ → ℕ → Hashed
hashed_at es i index = record { hash = name_hash (entry_at es i).name; index = index }

get_hashed : (n : ℕ) (es : List NewEntry) (i index : ℕ) (d : Hashed) → index ≡ n + i → i < length es → get_or (hashed_from n es) i d ≡ hashed_at es i index
get_hashed n [] i index d is lt = absurd (omega arith)
get_hashed n (e ∷ es) zero index d is lt = let same : n ≡ index = omega arith in ap (λ (k : ℕ). hashed_at (e ∷ es) 0 k) same
get_hashed n (e ∷ es) (suc i) index d is lt = get_hashed (n + 1) es i index d (omega arith) (omega arith)

pub hashed_good : (es : List NewEntry) → All (IsHashed es) (hashed_from 0 es)
hashed_good es = λ k d lt.
    let inside : k < length es = omega (arith, length_hashed 0 es) in
    subst (IsHashed es) (sym (get_hashed 0 es k k d (omega arith) inside)) (record { inside = inside; hash_is = refl })

tsizes_hashed : (all es : List NewEntry) (n : ℕ) → ((i j : ℕ) → j ≡ n + i → i < length es → entry_at all j ≡ entry_at es i) → tsizes_in all (hashed_from n es) ≡ sum_by (λ (e : NewEntry). e.tsize) es
tsizes_hashed all [] n at = refl
tsizes_hashed all (e ∷ es) n at =
    let here = ap (λ (x : NewEntry). x.tsize) (at 0 n (omega arith) (omega arith)) in
    let rest = tsizes_hashed all es (n + 1) (λ i j is lt. at (suc i) j (omega arith) (omega arith)) in
    let one = sum_by-cons (λ (x : Hashed). (entry_at all x.index).tsize) (record { hash = name_hash e.name; index = n }) (hashed_from (n + 1) es) in
    let two = sum_by-cons (λ (x : NewEntry). x.tsize) e es in
    omega (arith, here, rest, one, two)

listed_hashed : (all : List NewEntry) (dags : ℕ → Dag) (n : ℕ) (es : List NewEntry) (children : Children)
    → ((i j : ℕ) → j ≡ n + i → i < length es → (entry_at all j ≡ entry_at es i) × (dags j ≡ child_at children i)) → LeadTo es children
    → map (listed_as all dags) (hashed_from n es) ≡ listed_for es children
unfolding child_at
listed_hashed all dags n [] children at lead = refl
listed_hashed all dags n (e ∷ es) no_child at lead = absurd lead
listed_hashed all dags n (e ∷ es) (with_child d children) at lead =
    let here = at 0 n (omega arith) (omega arith) in
    let rest = listed_hashed all dags (n + 1) es children (λ i j is lt. at (suc i) j (omega arith) (omega arith)) lead.2 in
    let one : listed_as all dags (record { hash = name_hash e.name; index = n }) ≡ record { name = e.name; dag = d } = λ k. record { name = (here.0 k).name; dag = here.1 k } in
    ap (λ (x : DirEntry). x ∷ map (listed_as all dags) (hashed_from (n + 1) es)) one ∙ ap (λ (l : List DirEntry). record { name = e.name; dag = d } ∷ l) rest

-- ---- the order of all entries

pub sorted_good : (es : List NewEntry) (order : List Hashed) → IsSortedOrder es order → All (IsHashed es) order
sorted_good es order h = All-permutation (IsHashed es) (hashed_from 0 es) order h.all (hashed_good es)

pub sorted_order : (es : List NewEntry) (order : List Hashed) → IsSortedOrder es order → Rises order → IsOrder es order
sorted_order es order h rises = record { rises = rises; each = sorted_good es order h }

pub sorted_few : (es : List NewEntry) (order : List Hashed) → IsSortedOrder es order → length order ≡ length es
sorted_few es order h = length_permutation (hashed_from 0 es) order h.all ∙ length_hashed 0 es

pub sorted_tsizes : (es : List NewEntry) (order : List Hashed) → IsSortedOrder es order → tsizes_in es order ≡ sum_by (λ (e : NewEntry). e.tsize) es
sorted_tsizes es order h =
    sum_by-IsPermutation (λ (x : Hashed). (entry_at es x.index).tsize) (hashed_from 0 es) order h.all
    ∙ tsizes_hashed es es 0 (λ i j is lt. (let same : j ≡ i = omega arith in ap (entry_at es) same))

-- each entry is in the order
in_order : (es : List NewEntry) (order : List Hashed) → IsSortedOrder es order → (i : ℕ) → i < length es → Contains order (hashed_at es i i)
in_order es order h i lt =
    let d : Hashed = record { hash = 0; index = 0 } in
    Contains-permutation (hashed_from 0 es) order (hashed_at es i i) h.all
    (subst (Contains (hashed_from 0 es)) (get_hashed 0 es i i d (omega arith) lt) (Contains-get_or (hashed_from 0 es) i d (omega (arith, length_hashed 0 es))))

-- where the hashes rise, no two entries have one
apart : (es : List NewEntry) (order : List Hashed) → IsSortedOrder es order → Rises order → (i j : ℕ) → i < length es → j < length es → i ≢ j
    → name_hash (entry_at es i).name ≢ name_hash (entry_at es j).name
apart es order h rises i j a b differ same =
    let one = in_order es order h i a in
    let other = in_order es order h j b in
    let d : Hashed = record { hash = 0; index = 0 } in
    let first : get_or order one.0 d ≡ hashed_at es i i = get_or_default order one.0 d _ one.1 ∙ one.2 in
    let second : get_or order other.0 d ≡ hashed_at es j j = get_or_default order other.0 d _ other.1 ∙ other.2 in
    let first_hash = ap (λ (x : Hashed). x.hash) first in
    let second_hash = ap (λ (x : Hashed). x.hash) second in
    ⊎_elim
    (λ (e : one.0 ≡ other.0). differ (ap (λ (x : Hashed). x.index) (sym first ∙ ap (λ (k : ℕ). get_or order k d) e ∙ second)))
    (λ (ne : (one.0 < other.0) ⊎ (other.0 < one.0)).
    ⊎_elim
    (λ (lt : one.0 < other.0). (let up = rises one.0 other.0 d lt other.1 in absurd (omega (arith, up, first_hash, second_hash, same))))
    (λ (gt : other.0 < one.0). (let up = rises other.0 one.0 d gt one.1 in absurd (omega (arith, up, first_hash, second_hash, same))))
    ne)
    (cases_order one.0 other.0)

pub none_passed_over : (es : List NewEntry) (order : List Hashed) → IsSortedOrder es order → Rises order → (first second : List ℕ) → HaveSameHash es first second → ⊥
none_passed_over es order h rises first second s =
    let names = map (λ (e : NewEntry). e.name) es in
    let count = length-map es (λ (e : NewEntry). e.name) in
    let i = s.first_in.0 in
    let j = s.second_in.0 in
    let a : i < length es = omega (arith, s.first_in.1, count) in
    let b : j < length es = omega (arith, s.second_in.1, count) in
    let first_is : (entry_at es i).name ≡ first = sym (get_or-map (λ (e : NewEntry). e.name) es i no_entry first a) ∙ s.first_in.2 in
    let second_is : (entry_at es j).name ≡ second = sym (get_or-map (λ (e : NewEntry). e.name) es j no_entry second b) ∙ s.second_in.2 in
    apart es order h rises i j a b
    (λ e. less_apart first second s.before (sym first_is ∙ ap (λ (k : ℕ). (entry_at es k).name) e ∙ second_is))
    (ap name_hash first_is ∙ s.same ∙ sym (ap name_hash second_is))

less_is : (o : Ordering) → is_lt o ≡ true → o ≡ Less
less_is Less h = refl
less_is Equal h = absurd (cc)
less_is Greater h = absurd (cc)

pub this_way : (a b : List ℕ) → is_lt (bytes_cmp a b) ≡ true → bytes_cmp a b ≡ Less
this_way a b h = less_is (bytes_cmp a b) h

-- ---- the directory

module _ (es : List NewEntry) (children : Children) (lead : LeadTo es children) (sound : AreSound children) where
  pub all_lead : (order : List Hashed) → All (IsHashed es) order → All (LeadsTo es (child_at children)) order
  all_lead order each = λ k d lt.
      let item = get_or order k d in
      let at = leads_at es children item.index lead sound (each k d lt).inside in
      record { cid = at.0; tsize = at.1; sound = at.2 }

  listed_all : map (listed_as es (child_at children)) (hashed_from 0 es) ≡ listed_for es children
  listed_all = listed_hashed es (child_at children) 0 es children
      (λ i j is lt. (let same : j ≡ i = omega arith in (ap (entry_at es) same, ap (child_at children) same))) lead

-- a block of a DAG is one of the DAGs together
in_children : (es : List NewEntry) (children : Children) (i : ℕ) (b : Section) → LeadTo es children → i < length es → Contains (blocks (child_at children i)) b → Contains (blocks_of_children children) b
unfolding child_at
in_children [] children i b lead lt has = absurd (omega arith)
in_children (e ∷ es) no_child i b lead lt has = absurd lead
in_children (e ∷ es) (with_child d children) zero b lead lt has = Contains-append_left (blocks d) (blocks_of_children children) b has
in_children (e ∷ es) (with_child d children) (suc i) b lead lt has =
    Contains-append_right (blocks d) (blocks_of_children children) b (in_children es children i b lead.2 (omega arith) has)

laid_at : (options : LayoutOptions) (es : List NewEntry) (children : Children) (i : ℕ) → LeadTo es children → AreLaidOut options children → i < length es → IsLaidAt options top (child_at children i)
unfolding child_at
laid_at options [] children i lead laid lt = absurd (omega arith)
laid_at options (e ∷ es) no_child i lead laid lt = absurd lead
laid_at options (e ∷ es) (with_child d children) zero lead laid lt = laid.0
laid_at options (e ∷ es) (with_child d children) (suc i) lead laid lt = laid_at options es children i lead.2 laid.1 (omega arith)

pub directory_made : (es : List NewEntry) (order : List Hashed) (made : Made) (keeping : Keeping) → IsSortedOrder es order → MakesShard es order 0 made keeping → MakesSharded es made keeping
directory_made es order made keeping h makes = record {
  sections = makes.sections;
  keeps = makes.keeps;
  order = makes.behind_links;
  directory = λ children lead sound.
      let each = sorted_good es order h in
      let sh = makes.shard (child_at children) [] (all_lead es children lead sound order each) refl (λ k d lt. refl) in
      let d = node sh.section (Shard sh.slots) sh.children in (
        d,
        record {
          directory = record {
            sound = record {
              whole = sh.whole;
              checked = (
                record {
                  named = sh.stands.named;
                  reads = sh.stands.reads;
                  links = sh.stands.links;
                  stands = sh.stands.stands;
                  of_size = tt;
                  tells_size = tt;
                },
                sh.checked,
              );
            };
            lists = subst (λ (l : List DirEntry). IsPermutation l (entries d)) (listed_all es children lead sound)
                (subst (IsPermutation (map (listed_as es (child_at children)) (hashed_from 0 es))) (sym sh.listed)
                (IsPermutation-map (listed_as es (child_at children)) (hashed_from 0 es) order h.all));
            blocks_are = λ b has. ⊎_elim
                (λ (own : Contains makes.sections b). inl own)
                (λ (below : IsBelow (child_at children) order b).
                inr (in_children es children below.item.index b lead (All-contains (IsHashed es) order below.item each below.among).inside below.has))
                (sh.blocks_are b has);
            own_blocks = sh.own_blocks;
            plain = sh.plain;
            cid = sh.cid_is;
            content_is = sh.content_is;
            tsize = sh.tsize_is;
          };
          section = sh.section;
          slots = sh.slots;
          below = sh.children;
          sharded = refl;
          laid = λ options laid heavy.
              (heavy, sh.written, sh.laid options (λ k e lt. laid_at options es children (get_or order k e).index lead laid (each k e lt).inside));
        },
      );
}

-- what an entry is listed as is one of what the directory lists
listed_there : (es : List NewEntry) (children : Children) → LeadTo es children → AreSound children → (item : Hashed) → IsHashed es item
    → Contains (listed_for es children) (listed_as es (child_at children) item)
listed_there es children lead sound item h =
    let f = listed_as es (child_at children) in
    let i = item.index in
    let one = hashed_at es i i in
    let count = length-map (hashed_from 0 es) f in
    let inside : i < length (hashed_from 0 es) = omega (arith, h.inside, length_hashed 0 es) in
    subst (λ (l : List DirEntry). Contains l (f item)) (listed_all es children lead sound)
    (i, omega (arith, inside, count), get_or-map f (hashed_from 0 es) i one (f item) inside ∙ ap f (get_hashed 0 es i i one (omega arith) h.inside))

all_listed_there : (es : List NewEntry) (children : Children) → LeadTo es children → AreSound children → (order : List Hashed) → All (IsHashed es) order
    → All (Contains (listed_for es children)) (map (listed_as es (child_at children)) order)
all_listed_there es children lead sound [] each = λ k d lt. absurd (omega arith)
all_listed_there es children lead sound (item ∷ order) each =
    All-cons (Contains (listed_for es children)) (listed_as es (child_at children) item) (map (listed_as es (child_at children)) order)
    (listed_there es children lead sound item (All-head (IsHashed es) item order each))
    (all_listed_there es children lead sound order (All-tail (IsHashed es) item order each))

-- a section of a shard
of_sharded : (es : List NewEntry) (children : Children) → LeadTo es children → AreSound children → (b : Section) → IsOfShard es (child_at children) b → IsOfSharded es children b
of_sharded es children lead sound b s = record {
  above = s.above;
  shard = node s.shard.section (Shard s.shard.slots) s.shard.children;
  whole = s.shard.whole;
  checked = (s.shard.stands, s.shard.checked);
  lists = subst (All (Contains (listed_for es children))) (sym s.shard.listed) (all_listed_there es children lead sound s.order s.shard.among);
  has = subst (λ (l : List Section). Contains l b) (sym s.shard.sections_are) s.has;
}

pub directory_stops : (es : List NewEntry) (order : List Hashed) (fault : KeepFault) (keeping : Keeping) → IsSortedOrder es order → StopsShard es order 0 fault keeping → StopsSharded es fault keeping
directory_stops es order fault keeping h stops = record {
  sections = stops.sections;
  stops = stops.stops;
  order = stops.behind_links;
  each = λ children lead sound.
      let each = sorted_good es order h in
      let all = stops.each (child_at children) [] (all_lead es children lead sound order each) refl (λ k d lt. refl) in
      λ k d lt. of_sharded es children lead sound (get_or stops.sections k d) (all k d lt);
}

-- ---- two entries with one hash

-- indices differ
different : (i j : ℕ) → i < j → nat_eq i j ≡ false
different i j lt = ne_eqb i j (λ same. absurd (omega (arith, same, lt)))

turned : (i j : ℕ) → nat_eq i j ≡ nat_eq j i
turned i j = elim (eqb_tells i j) [ inl p ↦ p.0 ∙ sym (eq-eqb j i (sym p.1)) | inr p ↦ p.0 ∙ sym (ne_eqb j i (λ e. p.1 (sym e))) ]

index_at : (es : List NewEntry) (i d : ℕ) → i < length es → get_or (map (λ (x : Hashed). x.index) (hashed_from 0 es)) i d ≡ i
index_at es i d lt =
    let all = hashed_from 0 es in
    get_or-map (λ (x : Hashed). x.index) all i (hashed_at es i i) d (omega (arith, length_hashed 0 es, lt)) ∙ ap (λ (x : Hashed). x.index) (get_hashed 0 es i i (hashed_at es i i) (omega arith) lt)

indices_differ : (es : List NewEntry) → IsDistinct nat_eq (map (λ (x : Hashed). x.index) (hashed_from 0 es))
indices_differ es = IsDistinct-from_apart nat_eq (map (λ (x : Hashed). x.index) (hashed_from 0 es)) (λ i j d lt inside.
    let count = length-map (hashed_from 0 es) (λ (x : Hashed). x.index) in
    let high : j < length es = omega (arith, count, length_hashed 0 es, inside) in
    rw (index_at es i d (omega (arith, lt, high)), index_at es j d high) (different i j lt))

places_differ : (es : List NewEntry) (order : List Hashed) → IsSortedOrder es order → (i : ℕ) → i + 1 < length order → (d : Hashed) → (get_or order i d).index ≢ (get_or order (i + 1) d).index
places_differ es order h i lt d same =
    let f = λ (x : Hashed). x.index in
    let count = length-map order f in
    let moved = IsDistinct-IsPermutation nat_eq turned (map f (hashed_from 0 es)) (map f order) (IsPermutation-map f (hashed_from 0 es) order h.all) (indices_differ es) in
    let no = apart_from_distinct nat_eq (map f order) i (i + 1) d.index moved (omega arith) (omega (arith, count, lt)) in
    let yes = eq-eqb (get_or (map f order) i d.index) (get_or (map f order) (i + 1) d.index) (get_or-map f order i d d.index (omega (arith, lt)) ∙ same ∙ sym (get_or-map f order (i + 1) d d.index lt)) in
    absurd (cc)

-- an entry of the order that is read
pub read_hashed : (es : List NewEntry) (order : List Hashed) → IsSortedOrder es order → (i : ℕ) (item : Hashed) → i < length order → item ≡ get_or order i item → IsHashed es item
read_hashed es order h i item lt is = subst (IsHashed es) (sym is) (sorted_good es order h i item lt)

pub read_name : (es : List NewEntry) (item : Hashed) (e : NewEntry) → IsHashed es item → e ≡ get_or es item.index e → e.name ≡ (entry_at es item.index).name
read_name es item e h is = ap (λ (x : NewEntry). x.name) (is ∙ get_or_default es item.index e _ h.inside)

-- the entries of two neighbours have different names
pub pair_differs : (es : List NewEntry) (order : List Hashed) → IsSortedOrder es order → IsDistinct bytes_eq (map (λ (e : NewEntry). e.name) es) → (i : ℕ) (one other : Hashed) (a b : NewEntry)
    → i + 1 < length order → one ≡ get_or order i one → other ≡ get_or order (i + 1) other → a ≡ get_or es one.index a → b ≡ get_or es other.index b → a.name ≢ b.name
pair_differs es order h differ i one other a b lt one_is other_is a_is b_is same =
    let first = read_hashed es order h i one (omega arith) one_is in
    let second = read_hashed es order h (i + 1) other lt other_is in
    let places : one.index ≢ other.index = λ e. places_differ es order h i lt one
    (ap (λ (x : Hashed). x.index) (sym one_is) ∙ e ∙ ap (λ (x : Hashed). x.index) (other_is ∙ get_or_default order (i + 1) other one lt)) in
    let names = sym (read_name es one a first a_is) ∙ same ∙ read_name es other b second b_is in
    ⊎_elim
    (λ (e : one.index ≡ other.index). places e)
    (λ (ne : (one.index < other.index) ⊎ (other.index < one.index)).
    ⊎_elim
    (λ (less : one.index < other.index). other_names es one.index other.index no_entry differ less second.inside names)
    (λ (more : other.index < one.index). other_names es other.index one.index no_entry differ more first.inside (sym names))
    ne)
    (cases_order one.index other.index)

pub pair_same : (es : List NewEntry) (one other : Hashed) (a b : List ℕ) → IsHashed es one → IsHashed es other → one.hash ≡ other.hash
    → a ≡ (entry_at es one.index).name → b ≡ (entry_at es other.index).name → bytes_cmp a b ≡ Less → HaveSameHash es a b
pair_same es one other a b h g same a_is b_is less =
    let names = map (λ (e : NewEntry). e.name) es in
    let count = length-map es (λ (e : NewEntry). e.name) in
    record {
      first_in = (one.index, omega (arith, h.inside, count), get_or-map (λ (e : NewEntry). e.name) es one.index no_entry a h.inside ∙ sym a_is);
      second_in = (other.index, omega (arith, g.inside, count), get_or-map (λ (e : NewEntry). e.name) es other.index no_entry b g.inside ∙ sym b_is);
      before = less;
      same = ap name_hash a_is ∙ sym h.hash_is ∙ same ∙ g.hash_is ∙ ap name_hash (sym b_is);
    }

-- the fault for two neighbours with one hash, with which nothing was kept
pub pair_cause : (es : List NewEntry) (keeping : Keeping) (one other : Hashed) (a b : List ℕ) (fault : HamtFault) → IsHashed es one → IsHashed es other → one.hash ≡ other.hash
    → a ≡ (entry_at es one.index).name → b ≡ (entry_at es other.index).name → IsPairFault a b fault → Keeps [] keeping → StopsAfter [] OutOfMemory keeping → IsCause es fault keeping
pair_cause es keeping one other a b (faults.SameHash first second) h g same a_is b_is pair keeps stops = elim pair [
  | inl p ↦ (
    subst (λ (x : List ℕ). HaveSameHash es x second) (sym p.1.0)
        (subst (λ (y : List ℕ). HaveSameHash es a y) (sym p.1.1) (pair_same es one other a b h g same a_is b_is p.0)),
    keeps,
  )
  | inr p ↦ (
    subst (λ (x : List ℕ). HaveSameHash es x second) (sym p.1.0)
        (subst (λ (y : List ℕ). HaveSameHash es b y) (sym p.1.1) (pair_same es other one b a g h (sym same) b_is a_is p.0)),
    keeps,
  )
]
pair_cause es keeping one other a b (faults.Keep fault) h g same a_is b_is pair keeps stops = elim pair [ inl p ↦ absurd p.1 | inr p ↦ absurd p.1 ]
pair_cause es keeping one other a b faults.OutOfMemory h g same a_is b_is pair keeps stops =
    record { sections = []; stops = stops; order = behind_nothing (entry_cids es); each = λ children lead sound. λ k d lt. absurd (omega arith) }
