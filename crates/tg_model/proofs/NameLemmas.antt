-- Good names, the first bad one, the first one that stands before, and the slots of links: one link more at a time.
use Rattle.tg_model.specs.declared.fault.BlockFault.TheVariants as faults
use Rattle.std.proofs.Common.{◌≡◌, ℕ, ◌+◌, ◌<◌, Bool, true, false, cond, List, [], ◌∷◌, ◌++◌, Some, Ok, Err, Result, Ordering, BTreeSet, Bor, length, length-append, map, drop, get_or, not, refl, ap, sym, ◌∙◌}
use Rattle.std.specs.BTreeSet.{contains}
use Rattle.std.specs.Cmp.Lexicographic.{slice_cmp}
use Rattle.std.specs.List.{list_any, list_all}
use Rattle.std.specs.Ordering.{is_eq, nat_cmp}
use Rattle.std.specs.Prelude.{bytes_eq, if◌then◌else◌, ◌&&◌, ◌==◌, ◌||◌}
use Rattle.std.proofs.Math.Bool.{and-true}
use Rattle.std.proofs.lemmas.Bool.{cond-true, cond-false}
use Rattle.std.proofs.lemmas.List.{append_assoc, drop_more}
use Rattle.std.proofs.lemmas.Map.Text.{is_eq-slice_cmp}
use Rattle.tg_cid.specs.Cid.{CidParts}
use Rattle.tg_dagpb.specs.declared.Link.{Link}
use Rattle.tg_model.proofs.NameTests.{bytes_eq_comm}
use Rattle.tg_model.specs.Computed.{◌>>=◌, doubled_from, first_from, has_digits, is_good_name, slot_at, slots_from, unless}
use Rattle.tg_model.specs.Reading.{name_of}
use Rattle.tg_model.specs.declared.fault.BlockFault.{BlockFault}
use Rattle.tg_model.specs.declared.kinds.Slot.{Slot}

-- ---- names

-- a name that isn't empty, a dot or two dots is good exactly where its bytes are
pub good_from_bytes : (name : List ℕ) → length name == 0 ≡ false → bytes_eq name (46 ∷ []) ≡ false → bytes_eq name (46 ∷ 46 ∷ []) ≡ false
    → list_all (λ b. not (b == 47) && not (b == 0)) name ≡ is_good_name name
good_from_bytes [] full one two = absurd cc
good_from_bytes (b ∷ name) full one two = simp (one, two, and-true)

-- ---- names that stand before

-- the order of references to bytes
abbrev pub by_bytes : Bor (List ℕ) → Bor (List ℕ) → Ordering
by_bytes x y = slice_cmp nat_cmp x.now y.now

-- names are seen, and the search for the first doubled one goes on in the links that are left
pub record Seen (links rest : List Link) (at : ℕ) (seen : BTreeSet (Bor (List ℕ))) : Type 0 where
  pub before : List (List ℕ)
  pub goes_on : doubled_from 0 [] (map name_of links) ≡ doubled_from at before (map name_of rest)
  pub has : (q : Bor (List ℕ)) → contains by_bytes seen q ≡ list_any (bytes_eq q.now) before

-- the first of two tests, or else the second
cond_is_or : (b c : Bool) → cond b true c ≡ (b || c)
cond_is_or true c = refl
cond_is_or false c = refl

-- the search at a link with this name
doubled_at : (at : ℕ) (before : List (List ℕ)) (rest more : List Link) (link : Link) (name : List ℕ) → rest ≡ link ∷ more → name ≡ name_of link
    → doubled_from at before (map name_of rest)
    ≡ (if list_any (bytes_eq name) before then Some at else doubled_from (at + 1) (name ∷ before) (map name_of more))
doubled_at at before rest more link name is_link is_name =
    ap (λ (ls : List Link). doubled_from at before (map name_of ls)) is_link
    ∙ ap (λ (n : List ℕ). doubled_from at before (n ∷ map name_of more)) (sym is_name)

-- the name of the next link stands before
pub seen_here : (links rest more : List Link) (at : ℕ) (seen : BTreeSet (Bor (List ℕ))) (link : Link) (name : Bor (List ℕ)) → Seen links rest at seen
    → rest ≡ link ∷ more → name.now ≡ name_of link → contains by_bytes seen name ≡ true
    → doubled_from 0 [] (map name_of links) ≡ Some at
seen_here links rest more at seen link name s is_link is_name found =
    s.goes_on ∙ doubled_at at s.before rest more link name.now is_link is_name
    ∙ cond-true (list_any (bytes_eq name.now) s.before) (Some at) (doubled_from (at + 1) (name.now ∷ s.before) (map name_of more))
    (sym (s.has name) ∙ found)

-- or it is seen from there on
pub seen_more : (links rest more : List Link) (at : ℕ) (seen now : BTreeSet (Bor (List ℕ))) (link : Link) (name : Bor (List ℕ)) → Seen links rest at seen
    → rest ≡ link ∷ more → name.now ≡ name_of link → contains by_bytes seen name ≡ false
    → ((q : Bor (List ℕ)) → contains by_bytes now q ≡ cond (is_eq (by_bytes name q)) true (contains by_bytes seen q))
    → Seen links more (at + 1) now
seen_more links rest more at seen now link name s is_link is_name missing adds = record {
  before = name.now ∷ s.before;
  goes_on = s.goes_on ∙ doubled_at at s.before rest more link name.now is_link is_name
      ∙ cond-false (list_any (bytes_eq name.now) s.before) (Some at) (doubled_from (at + 1) (name.now ∷ s.before) (map name_of more))
      (sym (s.has name) ∙ missing);
  has = λ q.
      adds q ∙ ap (λ b. cond b true (contains by_bytes seen q)) (is_eq-slice_cmp name.now q.now ∙ bytes_eq_comm name.now q.now)
      ∙ cond_is_or (bytes_eq q.now name.now) (contains by_bytes seen q) ∙ ap (λ b. bytes_eq q.now name.now || b) (s.has q);
}

-- ---- slots

-- the slots of the links that are left, behind those of the links before
abbrev pub slots_behind : List Slot → List ℕ → List Link → List CidParts → Result (List Slot) BlockFault
slots_behind front numbers links cids = slots_from (length front) (drop (length front) numbers) links cids >>= λ slots. Ok (front ++ slots)

-- one slot after another joins those before
slot_joins : (front : List Slot) (slot : Slot) (rest : Result (List Slot) BlockFault)
    → ((rest >>= λ slots. Ok (slot ∷ slots)) >>= λ slots. Ok (front ++ slots)) ≡ (rest >>= λ slots. Ok ((front ++ slot ∷ []) ++ slots))
slot_joins front slot (Ok slots) = ap (λ l. Ok l) (sym (append_assoc front (slot ∷ []) slots))
slot_joins front slot (Err fault) = refl

-- the slots at the next link
slots_at : (front : List Slot) (numbers : List ℕ) (links more_links : List Link) (cids more_cids : List CidParts) (link : Link) (cid : CidParts)
    → length front < length numbers → links ≡ link ∷ more_links → cids ≡ cid ∷ more_cids
    → slots_from (length front) (drop (length front) numbers) links cids
    ≡ unless (not (has_digits (get_or numbers (length front) 0) link)) (faults.BadSlot (length front)) (
    slots_from (length front + 1) (drop (length front + 1) numbers) more_links more_cids >>= λ slots. Ok (slot_at (get_or numbers (length front) 0) link cid ∷ slots))
slots_at front numbers links more_links cids more_cids link cid n is_link is_cid =
    ap (λ ns. slots_from (length front) ns links cids) (drop_more numbers (length front) 0 n)
    ∙ ap (λ ls. slots_from (length front) (get_or numbers (length front) 0 ∷ drop (length front + 1) numbers) ls cids) is_link
    ∙ ap (λ cs. slots_from (length front) (get_or numbers (length front) 0 ∷ drop (length front + 1) numbers) (link ∷ more_links) cs) is_cid

-- a link that begins with the digits of its slot is the next slot
pub slots_more : (front : List Slot) (numbers : List ℕ) (links more_links : List Link) (cids more_cids : List CidParts) (link : Link) (cid : CidParts)
    → length front < length numbers → links ≡ link ∷ more_links → cids ≡ cid ∷ more_cids
    → has_digits (get_or numbers (length front) 0) link ≡ true
    → slots_behind front numbers links cids ≡ slots_behind (front ++ slot_at (get_or numbers (length front) 0) link cid ∷ []) numbers more_links more_cids
slots_more front numbers links more_links cids more_cids link cid n is_link is_cid digits =
    let rest = slots_from (length front + 1) (drop (length front + 1) numbers) more_links more_cids in
    let slot = slot_at (get_or numbers (length front) 0) link cid in
    let whole = slots_at front numbers links more_links cids more_cids link cid n is_link is_cid in
    let longer : length front + 1 ≡ length (front ++ slot ∷ []) = sym (length-append front (slot ∷ [])) in
    ap (λ r. r >>= λ slots. Ok (front ++ slots)) (whole ∙ ap (λ b. unless (not b) (faults.BadSlot (length front)) (rest >>= λ slots. Ok (slot ∷ slots))) digits)
    ∙ slot_joins front slot rest
    ∙ ap (λ (n : ℕ). slots_from n (drop n numbers) more_links more_cids >>= λ slots. Ok ((front ++ slot ∷ []) ++ slots)) longer

-- a link that doesn't is the fault
pub slots_bad : (front : List Slot) (numbers : List ℕ) (links more_links : List Link) (cids more_cids : List CidParts) (link : Link) (cid : CidParts)
    → length front < length numbers → links ≡ link ∷ more_links → cids ≡ cid ∷ more_cids
    → has_digits (get_or numbers (length front) 0) link ≡ false → slots_behind front numbers links cids ≡ Err (faults.BadSlot (length front))
slots_bad front numbers links more_links cids more_cids link cid n is_link is_cid digits =
    let rest = slots_from (length front + 1) (drop (length front + 1) numbers) more_links more_cids in
    let slot = slot_at (get_or numbers (length front) 0) link cid in
    let whole = slots_at front numbers links more_links cids more_cids link cid n is_link is_cid in
    ap (λ r. r >>= λ slots. Ok (front ++ slots)) (whole ∙ ap (λ b. unless (not b) (faults.BadSlot (length front)) (rest >>= λ slots. Ok (slot ∷ slots))) digits)

-- ---- the first index at which a test holds

-- where it holds of the next value, that is the index
pub first_here : {A : Type 0} (test : A → Bool) (at : ℕ) (x : A) (xs : List A) → test x ≡ true → first_from test at (x ∷ xs) ≡ Some at
first_here test at x xs e = cond-true (test x) (Some at) (first_from test (at + 1) xs) e

-- where it doesn't, the search goes on
pub first_past : {A : Type 0} (test : A → Bool) (at : ℕ) (x : A) (xs : List A) → test x ≡ false → first_from test at (x ∷ xs) ≡ first_from test (at + 1) xs
first_past test at x xs e = cond-false (test x) (Some at) (first_from test (at + 1) xs) e
