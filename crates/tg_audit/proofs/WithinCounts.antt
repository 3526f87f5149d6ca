-- What a query's limits count, by what its traversal opens and meets.
use Rattle.std.proofs.Common.{All, Bool, List, [], arith, cond, false, flat_map, length, length-append, refl, true, ℕ, ◌*◌, ◌+◌, ◌++◌, ◌∷◌, ◌≡◌, ◌≤◌}
use Rattle.std.proofs.lemmas.List.Elements.{All-head, All-tail}
use Rattle.std.proofs.lemmas.List.Sums.{sum_by-cons}
use Rattle.std.specs.Prelude.{bytes_eq, filter, if◌then◌else◌, map, nat_eq, nat_lt, not, sum}
use Rattle.tg_audit.proofs.WithinListings.{opened, places_of}
use Rattle.tg_audit.proofs.WithinNodes.{IsSmallBlock, no_room}
use Rattle.tg_audit.proofs.WithinReplies.{room_of, rooms}
use Rattle.tg_audit.proofs.WithinWeights.{met_weight, places_weight}
use Rattle.tg_cid.specs.Cid.{CidParts}
use Rattle.tg_model.specs.Counts.{each_counted, greatest, if_once, met_beside, met_line, met_with, names_size}
use Rattle.tg_model.specs.Dag.{Children, Dag, Section, bare, blocks, blocks_of_children, no_child, node, unopened, with_child}
use Rattle.tg_model.specs.Queries.{QueryParts}
use Rattle.tg_model.specs.Texts.{listing_line}
use Rattle.tg_model.specs.Traversal.{ListedEntry, Place, Traversal, asked, first_behind, has_cid, is_asked, sections_of, sent, unrepeated}
use Rattle.tg_model_laws.specs.OpenedSections.{Opened, OpenedChildren}
use Rattle.tg_audit.proofs.BlockSizes.{all_left, all_right}
use Rattle.tg_audit.specs.Shards.{one_each}

-- ---- what is met

module _ (v : List ℕ → CidParts → ℕ) where
  abbrev pub met_size : List ListedEntry → ℕ
  met_size met = met_weight no_room v met

  size_both : (a b : List ListedEntry) → met_size (a ++ b) ≡ met_size a + met_size b
  size_both [] b = omega arith
  size_both (m ∷ a) b = let rest = size_both a b in omega (arith, rest)

  size_filter : (test : ListedEntry → Bool) (met : List ListedEntry) → met_size (filter test met) ≤ met_size met
  size_filter test [] = omega arith
  size_filter test (m ∷ met) = by (test m) (size_filter test met)
    where
      by : (b : Bool) → met_size (filter test met) ≤ met_size met → met_size (cond b (m ∷ filter test met) (filter test met)) ≤ v m.name m.cid + met_size met
      by true rest = omega (arith, rest)
      by false rest = omega (arith, rest)

  pub counted_few : (count : List ListedEntry → ℕ) → ((met : List ListedEntry) → count met ≤ met_size met) → (before met : List ListedEntry)
      → greatest (each_counted count before met) ≤ met_size before + met_size met
  counted_few count agrees before [] = omega arith
  counted_few count agrees before (m ∷ met) =
      let own = agrees (met_beside before m) in
      let beside = size_filter (λ other. nat_eq (length other.directory) (length m.directory)) (met_with before m) in
      let kept = size_filter (λ other. not (nat_lt (length m.directory) (length other.directory))) before in
      let both = size_both (filter (λ other. not (nat_lt (length m.directory) (length other.directory))) before) (m ∷ []) in
      let rest = counted_few count agrees (met_with before m) met in
      omega (arith, own, beside, kept, both, rest)

abbrev pub one_entry : List ℕ → CidParts → ℕ
one_entry name cid = 1

-- the bytes of a name, and of the line of a listing
abbrev pub name_size : List ℕ → CidParts → ℕ
name_size name cid = length name

abbrev pub line_size : List ℕ → CidParts → ℕ
line_size name cid = length (listing_line (record { name = name; cid = cid }))

pub length_met : (met : List ListedEntry) → length met ≤ met_size one_entry met
length_met [] = omega arith
length_met (m ∷ met) = let rest = length_met met in omega (arith, rest)

pub names_met : (met : List ListedEntry) → names_size met ≤ met_size name_size met
names_met [] = omega arith
names_met (m ∷ met) =
    let first = sum_by-cons (λ (n : ℕ). n) (length m.name) (map (λ (x : ListedEntry). length x.name) met) in
    let rest = names_met met in
    omega (arith, first, rest)

pub lines_met : (met : List ListedEntry) → length (flat_map met_line met) ≤ met_size line_size met
lines_met [] = omega arith
lines_met (m ∷ met) =
    let here = by (bytes_eq m.directory []) in
    let rest = lines_met met in
    let both = length-append (met_line m) (flat_map met_line met) in
    omega (arith, here, rest, both)
  where
    by : (b : Bool) → length (if b then listing_line (record { name = m.name; cid = m.cid }) else []) ≤ line_size m.name m.cid
    by true = omega arith
    by false = omega arith

-- ---- what is opened, and sent of it

module _ (u : Section → ℕ) where
  abbrev pub total : List Section → ℕ
  total [] = 0
  total (section ∷ sections) = u section + total sections

  pub total_both : (a b : List Section) → total (a ++ b) ≡ total a + total b
  total_both [] b = omega arith
  total_both (s ∷ a) b = let rest = total_both a b in omega (arith, rest)

  pub asked_fewer : (q : QueryParts) (sections : List Section) → total (asked q sections) ≤ total sections
  asked_fewer q [] = omega arith
  asked_fewer q (s ∷ sections) = by (is_asked q s.cid) (asked_fewer q sections)
    where
      by : (b : Bool) → total (asked q sections) ≤ total sections → total (cond b (s ∷ asked q sections) (asked q sections)) ≤ u s + total sections
      by true rest = omega (arith, rest)
      by false rest = omega (arith, rest)

  first_fewer : (before sections : List Section) → total (first_behind before sections) ≤ total sections
  first_fewer before [] = omega arith
  first_fewer before (s ∷ sections) = by (has_cid s.cid before) (first_fewer (before ++ s ∷ []) sections)
    where
      by : (b : Bool) → total (first_behind (before ++ s ∷ []) sections) ≤ total sections
          → total (if b then first_behind (before ++ s ∷ []) sections else s ∷ first_behind (before ++ s ∷ []) sections) ≤ u s + total sections
      by true rest = omega (arith, rest)
      by false rest = omega (arith, rest)

  pub sent_fewer : (q : QueryParts) (sections : List Section) → total (sent q sections) ≤ total sections
  sent_fewer q sections = by q.dups
    where
      by : (dups : Bool) → total (unrepeated dups (asked q sections)) ≤ total sections
      by true = asked_fewer q sections
      by false = let first = first_fewer [] (asked q sections) in let all = asked_fewer q sections in omega (arith, first, all)

  pub of_opened : (t : Traversal) → total (sections_of t.places) + length t.text ≡ opened u t
  of_opened t = let places = places_are t.places in omega (arith, places)
    where
      places_are : (places : List Place) → total (sections_of places) ≡ places_of u places
      places_are [] = refl
      places_are (p ∷ places) = let rest = places_are places in omega (arith, rest)

  pub of_places : (v : List ℕ → CidParts → ℕ) (places : List Place) → total (sections_of places) ≡ places_weight u v places
  of_places v [] = refl
  of_places v (p ∷ places) = let rest = of_places v places in omega (arith, rest)

pub rooms_are : (sections : List Section) → rooms sections ≡ total room_of sections
rooms_are [] = refl
rooms_are (s ∷ sections) = let rest = rooms_are sections in omega (arith, rest)

pub length_is : (sections : List Section) → length sections ≡ total one_each sections
length_is [] = refl
length_is (s ∷ sections) = let rest = length_is sections in omega (arith, rest)

pub sizes_few : (sections : List Section) → sum (map (λ section. length section.block) sections) ≤ total room_of sections
sizes_few [] = omega arith
sizes_few (s ∷ sections) =
    let first = sum_by-cons (λ (n : ℕ). n) (length s.block) (map (λ (section : Section). length section.block) sections) in
    let rest = sizes_few sections in
    omega (arith, first, rest)

pub total_small : (sections : List Section) → All IsSmallBlock sections → total room_of sections ≤ length sections * 2097212
total_small [] all = omega arith
total_small (s ∷ sections) all =
    let here = All-head IsSmallBlock s sections all in
    let rest = total_small sections (All-tail IsSmallBlock s sections all) in
    omega (arith, here, rest)

-- ---- the greatest

pub blocks_few : (sections : List Section) → All IsSmallBlock sections → greatest (map (λ section. length section.block) sections) ≤ 2097152
blocks_few [] all = omega arith
blocks_few (s ∷ sections) all =
    let here = All-head IsSmallBlock s sections all in
    let rest = blocks_few sections (All-tail IsSmallBlock s sections all) in
    omega (arith, here, rest)

abbrev pub IsShallow : ℕ → Place → Type 0
IsShallow most p = p.depth ≤ most

pub depth_few : (most : ℕ) (places : List Place) → All (IsShallow most) places → greatest (map (λ p. p.depth) places) ≤ most
depth_few most [] all = omega arith
depth_few most (p ∷ places) all =
    let here = All-head (IsShallow most) p places all in
    let rest = depth_few most places (All-tail (IsShallow most) p places all) in
    omega (arith, here, rest)

-- ---- each block once

pub once_few : (dups : Bool) (n most : ℕ) → (dups ≡ false → n ≤ most) → if_once dups n ≤ most
once_few true n most h = omega arith
once_few false n most h = h refl

-- ---- what holds of a DAG's blocks

module _ (P : Section → Type 0) where
  mutual
    pub opened_all : (d : Dag) → All P (blocks d) → Opened P d
    opened_all (unopened cid) all = tt
    opened_all (bare section fault) all = All-head P section [] all
    opened_all (node section kind children) all =
        (All-head P section (blocks_of_children children) all, children_all children (All-tail P section (blocks_of_children children) all))

    children_all : (children : Children) → All P (blocks_of_children children) → OpenedChildren P children
    children_all no_child all = tt
    children_all (with_child d children) all =
        (opened_all d (all_left P (blocks d) (blocks_of_children children) all), children_all children (all_right P (blocks d) (blocks_of_children children) all))
