-- What is counted of directories, entry by entry.
use Rattle.std.proofs.Common.{◌≡◌, ◌<◌, ◌≤◌, ◌+◌, ◌-◌, ◌++◌, ◌∷◌, ◌∙◌, [], All, Bool, List, None, Some, append-nil, append_assoc, ap, ap₂, arith, false, length, length-append, map, not, refl, subst, sym, take, true, ℕ}
use Rattle.std.proofs.lemmas.Bool.{cond-false, cond-true, eq-eqb, le-ltb, lt-ltb, ltb-false, ne_eqb}
use Rattle.std.proofs.lemmas.List.{map-append, take_all, take_more}
use Rattle.std.proofs.lemmas.List.Elements.{All-append, All-cons, All-head, All-nil, All-tail, All-weaker, filter-append, filter_passes}
use Rattle.std.proofs.lemmas.List.Sums.{sum_by_push}
use Rattle.std.proofs.lemmas.Option.{get_or_from_slice_get, slice_get-get_or, slice_get_within}
use Rattle.std.specs.Prelude.{filter, max, nat_eq, nat_lt, slice_get, sum}
use Rattle.tg_model.specs.Counts.{each_counted, greatest, met_beside, met_with, names_size}
use Rattle.tg_model.specs.Traversal.{ListedEntry}
use Rattle.tg_verify.specs.Counting.{AreDirectories, HasMet, IsTakenOut, met_above, met_open}
use Rattle.tg_verify.specs.State.{told}
use Rattle.tg_verify.specs.declared.counts.Counts.{Counts}
use Rattle.tg_verify.specs.declared.counts.Directory.{Directory}

-- ---- lists

all_front : {X : Type 0} (P : X → Type 0) (xs ys : List X) → All P (xs ++ ys) → All P xs
all_front P [] ys h = All-nil P
all_front P (x ∷ xs) ys h = All-cons P x xs (All-head P x (xs ++ ys) h) (all_front P xs ys (All-tail P x (xs ++ ys) h))

all_behind : {X : Type 0} (P : X → Type 0) (xs ys : List X) → All P (xs ++ ys) → All P ys
all_behind P [] ys h = h
all_behind P (x ∷ xs) ys h = all_behind P xs ys (All-tail P x (xs ++ ys) h)

keeps_all : {X : Type 0} (p : X → Bool) (xs : List X) → All (λ x. p x ≡ true) xs → filter p xs ≡ xs
keeps_all p [] h = refl
keeps_all p (x ∷ xs) h =
    cond-true (p x) (x ∷ filter p xs) (filter p xs) (All-head (λ x. p x ≡ true) x xs h) ∙ ap (λ ys. x ∷ ys) (keeps_all p xs (All-tail (λ x. p x ≡ true) x xs h))

keeps_none : {X : Type 0} (p : X → Bool) (xs : List X) → All (λ x. p x ≡ false) xs → filter p xs ≡ []
keeps_none p [] h = refl
keeps_none p (x ∷ xs) h =
    cond-false (p x) (x ∷ filter p xs) (filter p xs) (All-head (λ x. p x ≡ false) x xs h) ∙ keeps_none p xs (All-tail (λ x. p x ≡ false) x xs h)

-- the last of a list, which is told, or there is none
last_told : {X : Type 0} (xs : List X) (x : X) → slice_get xs (length xs - 1) ≡ Some x → xs ≡ take (length xs - 1) xs ++ x ∷ []
last_told xs x e =
    let some : length xs - 1 < length xs = slice_get_within xs (length xs - 1) x e in
    sym (take_all (length xs - 1 + 1) xs (omega (arith, some)))
    ∙ take_more xs (length xs - 1) x some
    ∙ ap (λ y. take (length xs - 1) xs ++ y ∷ []) (get_or_from_slice_get xs (length xs - 1) x x e)

none_told : {X : Type 0} (xs : List X) → slice_get xs (length xs - 1) ≡ None → xs ≡ []
none_told [] e = refl
none_told (x ∷ xs) e =
    let found = slice_get-get_or (x ∷ xs) (length (x ∷ xs) - 1) x (omega arith) in
    cc (e, found)

-- ---- which entries are above

kept_above : (size : ℕ) (met : List ListedEntry) → All (λ m. length m.directory ≤ size) met → met_above size met ≡ met
kept_above size met h =
    keeps_all (λ (m : ListedEntry). not (nat_lt size (length m.directory))) met
    (All-weaker (λ (m : ListedEntry). length m.directory ≤ size) (λ (m : ListedEntry). not (nat_lt size (length m.directory)) ≡ true)
    (λ m low. ap not (le-ltb size (length m.directory) low)) met h)

none_above : (size : ℕ) (met : List ListedEntry) → All (λ m. size < length m.directory) met → met_above size met ≡ []
none_above size met h =
    keeps_none (λ (m : ListedEntry). not (nat_lt size (length m.directory))) met
    (All-weaker (λ (m : ListedEntry). size < length m.directory) (λ (m : ListedEntry). not (nat_lt size (length m.directory)) ≡ false)
    (λ m high. ap not (lt-ltb size (length m.directory) high)) met h)

not_below : (a b : ℕ) → not (nat_lt a b) ≡ true → b ≤ a
not_below a b e = by (nat_lt a b) refl e
  where
    by : (t : Bool) → nat_lt a b ≡ t → not t ≡ true → b ≤ a
    by true is e = cc e
    by false is e = ltb-false a b is

pub above_low : (size : ℕ) (met : List ListedEntry) → All (λ m. length m.directory ≤ size) (met_above size met)
above_low size met =
    All-weaker (λ (m : ListedEntry). not (nat_lt size (length m.directory)) ≡ true) (λ (m : ListedEntry). length m.directory ≤ size)
    (λ m is. not_below size (length m.directory) is) (met_above size met)
    (filter_passes (λ (m : ListedEntry). not (nat_lt size (length m.directory))) met)

-- ---- the innermost directory

-- what holds of each entry's size holds of the size that they have
by_first : (own : List ListedEntry) (R : ℕ → Type 0) (n : ℕ) → 0 < length own → All (λ m. length m.directory ≡ n) own → All (λ m. R (length m.directory)) own → R n
by_first [] R n some same h = absurd (omega (arith, some))
by_first (m ∷ own) R n some same h =
    subst R (All-head (λ (m : ListedEntry). length m.directory ≡ n) m own same) (All-head (λ (m : ListedEntry). R (length m.directory)) m own h)

-- it is split off
record IsSplit (directories : List Directory) (last : Directory) (met : List ListedEntry) : Type 0 where
  outer : List ListedEntry
  own : List ListedEntry
  met_is : met ≡ outer ++ own
  some : 0 < length own
  shorter : All (λ m. length m.directory < last.path) outer
  same : All (λ m. length m.directory ≡ last.path) own
  entries : last.entries ≡ told (length own)
  names : last.names ≡ told (names_size own)
  are_left : AreDirectories directories outer

split_last : (directories : List Directory) (last : Directory) (met : List ListedEntry) → AreDirectories (directories ++ last ∷ []) met → IsSplit directories last met
split_last [] last met (own, inner, e, some, same, longer, entries, names, none) = record {
  outer = [];
  own = own;
  met_is = e ∙ ap (λ (more : List ListedEntry). own ++ more) none ∙ append-nil own;
  some = some;
  shorter = All-nil (λ (m : ListedEntry). length m.directory < last.path);
  same = same;
  entries = entries;
  names = names;
  are_left = refl;
}
split_last (d ∷ directories) last met (own, inner, e, some, same, longer, entries, names, rest) =
    let s = split_last directories last inner rest in
    let longer_both : All (λ m. d.path < length m.directory) (s.outer ++ s.own) = subst (All (λ (m : ListedEntry). d.path < length m.directory)) s.met_is longer in
    let less : d.path < last.path =
    by_first s.own (λ (n : ℕ). d.path < n) last.path s.some s.same (all_behind (λ (m : ListedEntry). d.path < length m.directory) s.outer s.own longer_both) in
    record {
      outer = own ++ s.outer;
      own = s.own;
      met_is = e ∙ ap (λ (more : List ListedEntry). own ++ more) s.met_is ∙ sym (append_assoc own s.outer s.own);
      some = s.some;
      shorter = All-append (λ (m : ListedEntry). length m.directory < last.path) own s.outer
          (All-weaker (λ (m : ListedEntry). length m.directory ≡ d.path) (λ (m : ListedEntry). length m.directory < last.path) (λ m is. omega (arith, is, less)) own same) s.shorter;
      same = s.same;
      entries = s.entries;
      names = s.names;
      are_left = (own, s.outer, refl, some, same, all_front (λ (m : ListedEntry). d.path < length m.directory) s.outer s.own longer_both, entries, names, s.are_left);
    }

-- and put behind the others
join_last : (directories : List Directory) (last : Directory) (outer own : List ListedEntry) → AreDirectories directories outer → All (λ m. length m.directory < last.path) outer
    → All (λ m. length m.directory ≡ last.path) own → 0 < length own → last.entries ≡ told (length own) → last.names ≡ told (names_size own)
    → AreDirectories (directories ++ last ∷ []) (outer ++ own)
join_last [] last outer own none shorter same some entries names =
    subst (λ (front : List ListedEntry). AreDirectories (last ∷ []) (front ++ own)) (sym none)
    (own, [], sym (append-nil own), some, same, All-nil (λ (m : ListedEntry). last.path < length m.directory), entries, names, refl)
join_last (d ∷ directories) last outer own (mine, inner, e, first, equal, longer, counted, sized, rest) shorter same some entries names =
    let shorter_both : All (λ m. length m.directory < last.path) (mine ++ inner) = subst (All (λ (m : ListedEntry). length m.directory < last.path)) e shorter in
    let less : d.path < last.path =
    by_first mine (λ (n : ℕ). n < last.path) d.path first equal (all_front (λ (m : ListedEntry). length m.directory < last.path) mine inner shorter_both) in (
      mine,
      inner ++ own,
      ap (λ (front : List ListedEntry). front ++ own) e ∙ append_assoc mine inner own,
      first,
      equal,
      All-append (λ (m : ListedEntry). d.path < length m.directory) inner own longer
          (All-weaker (λ (m : ListedEntry). length m.directory ≡ last.path) (λ (m : ListedEntry). d.path < length m.directory) (λ m is. omega (arith, is, less)) own same),
      counted,
      sized,
      join_last directories last inner own rest (all_behind (λ (m : ListedEntry). length m.directory < last.path) mine inner shorter_both) same some entries names,
    )

-- ---- directories that are done with are left

-- of the old directories the inner ones were left
pub record HasLeft (size : ℕ) (old new : List Directory) : Type 0 where
  pub all : (met : List ListedEntry) → AreDirectories old met → (left : List ListedEntry) × AreDirectories new left × (met_above size left ≡ met_above size met)

pub none_left : (size : ℕ) (old : List Directory) → HasLeft size old old
none_left size old = record { all = λ met h. (met, h, refl) }

pub one_left : (size : ℕ) (old now new : List Directory) (last : Directory) → HasLeft size old now → slice_get now (length now - 1) ≡ Some last → size < last.path
    → new ≡ take (length now - 1) now → HasLeft size old new
one_left size old now new last h told_last below rest = record {
  all = λ met are.
      let (left, are_left, same) = h.all met are in
      let s = split_last new last left
      (subst (λ (ds : List Directory). AreDirectories ds left) (last_told now last told_last ∙ ap (λ (ds : List Directory). ds ++ last ∷ []) (sym rest)) are_left) in (
        s.outer,
        s.are_left,
        sym (append-nil (met_above size s.outer))
            ∙ ap (λ (more : List ListedEntry). met_above size s.outer ++ more)
            (sym (none_above size s.own
            (All-weaker (λ (m : ListedEntry). length m.directory ≡ last.path) (λ (m : ListedEntry). size < length m.directory) (λ m is. omega (arith, is, below)) s.own s.same)))
            ∙ sym (filter-append (λ (m : ListedEntry). not (nat_lt size (length m.directory))) s.outer s.own)
            ∙ ap (met_above size) (sym s.met_is)
            ∙ same,
      );
}

pub all_left : (size : ℕ) (old now : List Directory) → HasLeft size old now → slice_get now (length now - 1) ≡ None → (met : List ListedEntry) → AreDirectories old met
    → AreDirectories now (met_above size met)
all_left size old now h none met are =
    let (left, are_left, same) = h.all met are in
    let empty : now ≡ [] = none_told now none in
    let no_met : left ≡ [] = subst (λ (ds : List Directory). AreDirectories ds left) empty are_left in
    subst (λ (ds : List Directory). AreDirectories ds (met_above size met)) (sym empty) (sym same ∙ ap (met_above size) no_met)

low_all : (directories : List Directory) (last : Directory) (size : ℕ) (met : List ListedEntry) → last.path ≤ size → IsSplit directories last met
    → All (λ m. length m.directory ≤ size) met
low_all directories last size met low s =
    subst (All (λ (m : ListedEntry). length m.directory ≤ size)) (sym s.met_is)
    (All-append (λ (m : ListedEntry). length m.directory ≤ size) s.outer s.own
    (All-weaker (λ (m : ListedEntry). length m.directory < last.path) (λ (m : ListedEntry). length m.directory ≤ size) (λ m is. omega (arith, is, low)) s.outer s.shorter)
    (All-weaker (λ (m : ListedEntry). length m.directory ≡ last.path) (λ (m : ListedEntry). length m.directory ≤ size) (λ m is. omega (arith, is, low)) s.own s.same))

pub rest_left : (size : ℕ) (old now : List Directory) (last : Directory) → HasLeft size old now → slice_get now (length now - 1) ≡ Some last → last.path ≤ size
    → (met : List ListedEntry) → AreDirectories old met → AreDirectories now (met_above size met)
rest_left size old now last h told_last low met are =
    let (left, are_left, same) = h.all met are in
    let s = split_last (take (length now - 1) now) last left (subst (λ (ds : List Directory). AreDirectories ds left) (last_told now last told_last) are_left) in
    subst (AreDirectories now) (sym (kept_above size left (low_all (take (length now - 1) now) last size left low s)) ∙ same) are_left

-- ---- the innermost directory is taken out

pub takes_it : (size : ℕ) (now new : List Directory) (last : Directory) (met : List ListedEntry) → slice_get now (length now - 1) ≡ Some last → last.path ≡ size
    → new ≡ take (length now - 1) now → AreDirectories now met → IsTakenOut size met last new
takes_it size now new last met told_last is rest are =
    let s = split_last new last met
    (subst (λ (ds : List Directory). AreDirectories ds met) (last_told now last told_last ∙ ap (λ (ds : List Directory). ds ++ last ∷ []) (sym rest)) are) in
    record {
      outer = s.outer;
      own = s.own;
      met_is = s.met_is;
      shorter = subst (λ (n : ℕ). All (λ (m : ListedEntry). length m.directory < n) s.outer) is s.shorter;
      same = subst (λ (n : ℕ). All (λ (m : ListedEntry). length m.directory ≡ n) s.own) is s.same;
      path = is;
      entries = s.entries;
      names = s.names;
      are_left = s.are_left;
    }

-- or nothing of it is counted yet
none_of_it : (size : ℕ) (now : List Directory) (met : List ListedEntry) → All (λ m. length m.directory < size) met → AreDirectories now met
    → IsTakenOut size met (record { path = size; entries = 0; names = 0 }) now
none_of_it size now met shorter are = record {
  outer = met;
  own = [];
  met_is = sym (append-nil met);
  shorter = shorter;
  same = All-nil (λ (m : ListedEntry). length m.directory ≡ size);
  path = refl;
  entries = omega arith;
  names = omega arith;
  are_left = are;
}

pub takes_new : (size : ℕ) (now : List Directory) (last : Directory) (met : List ListedEntry) → slice_get now (length now - 1) ≡ Some last → (last.path ≡ size → ⊥)
    → AreDirectories now met → All (λ m. length m.directory ≤ size) met → IsTakenOut size met (record { path = size; entries = 0; names = 0 }) now
takes_new size now last met told_last other are low =
    let s = split_last (take (length now - 1) now) last met (subst (λ (ds : List Directory). AreDirectories ds met) (last_told now last told_last) are) in
    let low_both : All (λ m. length m.directory ≤ size) (s.outer ++ s.own) = subst (All (λ (m : ListedEntry). length m.directory ≤ size)) s.met_is low in
    let at_most : last.path ≤ size =
    by_first s.own (λ (n : ℕ). n ≤ size) last.path s.some s.same (all_behind (λ (m : ListedEntry). length m.directory ≤ size) s.outer s.own low_both) in
    let less : last.path < size = omega (arith, at_most, other) in
    none_of_it size now met
    (subst (All (λ (m : ListedEntry). length m.directory < size)) (sym s.met_is)
    (All-append (λ (m : ListedEntry). length m.directory < size) s.outer s.own
    (All-weaker (λ (m : ListedEntry). length m.directory < last.path) (λ (m : ListedEntry). length m.directory < size) (λ m is. omega (arith, is, less)) s.outer s.shorter)
    (All-weaker (λ (m : ListedEntry). length m.directory ≡ last.path) (λ (m : ListedEntry). length m.directory < size) (λ m is. omega (arith, is, less)) s.own s.same)))
    are

pub takes_first : (size : ℕ) (now : List Directory) (met : List ListedEntry) → slice_get now (length now - 1) ≡ None → AreDirectories now met
    → IsTakenOut size met (record { path = size; entries = 0; names = 0 }) now
takes_first size now met none are =
    let no_met : met ≡ [] = subst (λ (ds : List Directory). AreDirectories ds met) (none_told now none) are in
    none_of_it size now met (subst (All (λ (m : ListedEntry). length m.directory < size)) (sym no_met) (All-nil (λ (m : ListedEntry). length m.directory < size))) are

-- ---- one more entry is met

open_more : (before met : List ListedEntry) (m : ListedEntry) → met_open before (met ++ m ∷ []) ≡ met_with (met_open before met) m
open_more before [] m = refl
open_more before (first ∷ met) m = open_more (met_with before first) met m

counted_more : (count : List ListedEntry → ℕ) (before met : List ListedEntry) (m : ListedEntry)
    → each_counted count before (met ++ m ∷ []) ≡ each_counted count before met ++ count (met_beside (met_open before met) m) ∷ []
counted_more count before [] m = refl
counted_more count before (first ∷ met) m = ap (λ (ns : List ℕ). count (met_beside before first) ∷ ns) (counted_more count (met_with before first) met m)

greatest_more : (ns : List ℕ) (n : ℕ) → greatest (ns ++ n ∷ []) ≡ max (greatest ns) n
greatest_more [] n = omega arith
greatest_more (first ∷ ns) n =
    let more = greatest_more ns n in
    ap (max first) more ∙ max_again first (greatest ns) n
  where
    max_again : (a b c : ℕ) → max a (max b c) ≡ max (max a b) c
    max_again a b c = omega arith

counted_now : (count : List ListedEntry → ℕ) (met : List ListedEntry) (m : ListedEntry)
    → told (greatest (each_counted count [] (met ++ m ∷ []))) ≡ max (told (greatest (each_counted count [] met))) (told (count (met_beside (met_open [] met) m)))
counted_now count met m =
    ap told (ap greatest (counted_more count [] met m) ∙ greatest_more (each_counted count [] met) (count (met_beside (met_open [] met) m)))
    ∙ told_max (greatest (each_counted count [] met)) (count (met_beside (met_open [] met) m))
  where
    told_max : (a b : ℕ) → told (max a b) ≡ max (told a) (told b)
    told_max a b = omega arith

sum_more : (ns : List ℕ) (n : ℕ) → sum (ns ++ n ∷ []) ≡ sum ns + n
sum_more ns n = sum_by_push (λ (x : ℕ). x) ns n

names_more : (own : List ListedEntry) (m : ListedEntry) → names_size (own ++ m ∷ []) ≡ names_size own + length m.name
names_more own m =
    ap sum (map-append (λ (m : ListedEntry). length m.name) own (m ∷ [])) ∙ sum_more (map (λ (m : ListedEntry). length m.name) own) (length m.name)

-- the entries beside it
beside_own : (size : ℕ) (met outer own : List ListedEntry) (m : ListedEntry) → length m.directory ≡ size → met_above size met ≡ outer ++ own
    → All (λ m. length m.directory < size) outer → All (λ m. length m.directory ≡ size) own → met_beside met m ≡ own ++ m ∷ []
beside_own size met outer own m is above shorter same =
    let test : ListedEntry → Bool = λ (other : ListedEntry). nat_eq (length other.directory) (length m.directory) in
    let mine = λ (other : ListedEntry) (e : length other.directory ≡ size). eq-eqb (length other.directory) (length m.directory) (e ∙ sym is) in
    ap (λ (n : ℕ). filter test (met_above n met ++ m ∷ [])) is
    ∙ ap (λ (front : List ListedEntry). filter test (front ++ m ∷ [])) above
    ∙ ap (filter test) (append_assoc outer own (m ∷ []))
    ∙ filter-append test outer (own ++ m ∷ [])
    ∙ ap₂ (λ (front back : List ListedEntry). front ++ back)
    (keeps_none test outer (All-weaker (λ (m : ListedEntry). length m.directory < size) (λ (m : ListedEntry). test m ≡ false)
    (λ other less. ne_eqb (length other.directory) (length m.directory) (λ e. omega (arith, less, e, is))) outer shorter))
    (keeps_all test (own ++ m ∷ [])
    (All-append (λ (m : ListedEntry). test m ≡ true) own (m ∷ [])
    (All-weaker (λ (m : ListedEntry). length m.directory ≡ size) (λ (m : ListedEntry). test m ≡ true) mine own same)
    (All-cons (λ (m : ListedEntry). test m ≡ true) m [] (mine m is) (All-nil (λ (m : ListedEntry). test m ≡ true)))))

-- it is counted
pub has_met : (size : ℕ) (old new : Counts) (directories : List Directory) (taken counted : Directory) (m : ListedEntry) (before : List ListedEntry) → length m.directory ≡ size
    → HasMet old before → IsTakenOut size (met_above size (met_open [] before)) taken directories
    → counted.path ≡ taken.path → counted.entries ≡ told (taken.entries + 1) → counted.names ≡ told (taken.names + length m.name)
    → new.directories.items ≡ directories ++ counted ∷ [] → new.entries ≡ max old.entries counted.entries → new.names ≡ max old.names counted.names
    → HasMet new (before ++ m ∷ [])
has_met size old new directories taken counted m before is h t path entries names items most_entries most_names =
    let beside : met_beside (met_open [] before) m ≡ t.own ++ m ∷ [] = beside_own size (met_open [] before) t.outer t.own m is t.met_is t.shorter t.same in
    let entries_are : counted.entries ≡ told (length (t.own ++ m ∷ [])) =
    entries ∙ ap (λ (n : ℕ). told (n + 1)) t.entries ∙ told_again (length t.own) 1 ∙ ap told (sym (length-append t.own (m ∷ []))) in
    let names_are : counted.names ≡ told (names_size (t.own ++ m ∷ [])) =
    names ∙ ap (λ (n : ℕ). told (n + length m.name)) t.names ∙ told_again (names_size t.own) (length m.name) ∙ ap told (sym (names_more t.own m)) in
    record {
      entries = most_entries
          ∙ ap₂ max h.entries (entries_are ∙ ap (λ (own : List ListedEntry). told (length own)) (sym beside))
          ∙ sym (counted_now length before m);
      names = most_names
          ∙ ap₂ max h.names (names_are ∙ ap (λ (own : List ListedEntry). told (names_size own)) (sym beside))
          ∙ sym (counted_now names_size before m);
      directories =
          subst (AreDirectories new.directories.items)
          (sym (append_assoc t.outer t.own (m ∷ [])) ∙ ap (λ (front : List ListedEntry). front ++ m ∷ []) (sym t.met_is)
          ∙ ap (λ (n : ℕ). met_above n (met_open [] before) ++ m ∷ []) (sym is) ∙ sym (open_more [] before m))
          (subst (λ (ds : List Directory). AreDirectories ds (t.outer ++ (t.own ++ m ∷ []))) (sym items)
          (join_last directories counted t.outer (t.own ++ m ∷ []) t.are_left
          (subst (λ (n : ℕ). All (λ (m : ListedEntry). length m.directory < n) t.outer) (sym (path ∙ t.path)) t.shorter)
          (subst (λ (n : ℕ). All (λ (m : ListedEntry). length m.directory ≡ n) (t.own ++ m ∷ [])) (sym (path ∙ t.path))
          (All-append (λ (m : ListedEntry). length m.directory ≡ size) t.own (m ∷ []) t.same
          (All-cons (λ (m : ListedEntry). length m.directory ≡ size) m [] is (All-nil (λ (m : ListedEntry). length m.directory ≡ size)))))
          (some_more t.own m) entries_are names_are));
    }
  where
    told_again : (a b : ℕ) → told (told a + b) ≡ told (a + b)
    told_again a b = omega arith

    some_more : (own : List ListedEntry) (m : ListedEntry) → 0 < length (own ++ m ∷ [])
    some_more own m =
        let both = length-append own (m ∷ []) in
        omega (arith, both)
