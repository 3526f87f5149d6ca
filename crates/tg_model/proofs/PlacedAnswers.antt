-- Answers in place beside computed ones.
use Rattle.std.proofs.Common.{◌≡◌, ℕ, ◌+◌, ◌-◌, ◌<◌, ◌≤◌, ◌⊎◌, inl, inr, Some, None, Option, Ok, Err, Result, List, [], ◌∷◌, length, min, sum, map, drop, suc, eq-eqb, refl, sym, ap, ◌∙◌, subst, arith}
use Rattle.std.specs.Prelude.{⊤, Bool, false, true, nat_lt, not, ◌&&◌, ◌==◌, ◌^◌, IfErr, IfOk, MatchResult, slice_range, unwrap_or}
use Rattle.std.proofs.lemmas.Bool.{le-ltb, lt-ltb, ne_eqb}
use Rattle.std.proofs.lemmas.List.{length-drop, length-take-le}
use Rattle.std.proofs.lemmas.List.Sums.{sum_by-cons}
use Rattle.tg_cid.specs.Cid.{CidParts}
use Rattle.tg_cid.specs.declared.cid.Codec.TheVariants as codecs
use Rattle.tg_dagpb.specs.Computed.{node_of}
use Rattle.tg_dagpb.specs.declared.Link.{Link}
use Rattle.tg_dagpb.specs.declared.Node.{Node}
use Rattle.tg_model.specs.Computed.{◌>>=◌, Gives, cids_from, file_kind, first_from, has_bad_suffix, has_digits, is_wrong_count, kind_by, node_or_fault, read_node, read_under, shard_kind, slot_at, slots_from, unix_or_fault, unless, unless_at, used_count}
use Rattle.tg_model.specs.InnerFaults.{IsNoWantOfMemory}
use Rattle.tg_model.specs.Placed.{ArePartsAhead, GivesPlaced, HasPartCursor, IsFileAt, LieAt, StandsForAnswer, StandsForKind, TakesMemory}
use Rattle.tg_model.specs.PlacedSteps.{AllAhead, AreDataPlaces, block_cids, block_links, data_unix}
use Rattle.tg_model.specs.Reading.{inline_of, parts_of, used_slots}
use Rattle.tg_model.specs.declared.fault.BlockFault.{BlockFault}
use Rattle.tg_model.specs.declared.fault.BlockFault.TheVariants as faults
use Rattle.tg_model.specs.declared.kinds.Kind.{Kind}
use Rattle.tg_model.specs.declared.kinds.Kind.TheVariants.{File, Shard}
use Rattle.tg_model.specs.declared.kinds.Slot.{Slot}
use Rattle.tg_model.proofs.LinkCids.{cids_count}
use Rattle.tg_model.specs.declared.kinds.Part.{Part}
use Rattle.tg_model.specs.declared.placed.DataPlaces.{DataPlaces}
use Rattle.tg_model.specs.declared.placed.FilePlaces.{FilePlaces}
use Rattle.tg_model.specs.declared.placed.PlacedKind.{PlacedKind}
use Rattle.tg_model.specs.declared.placed.PlacedKind.TheVariants as placed
use Rattle.tg_model.proofs.KindTests.{count_ok}
use Rattle.tg_pbtable.specs.Laws.{PlaceLaws}
use Rattle.tg_pbtable.specs.Place.{AreInside, IsInside, bytes_of, placed_bytes}
use Rattle.tg_pbtable.specs.declared.fault.PbFault.{PbFault}
use Rattle.tg_pbtable.specs.declared.table.Place.{Place}
use Rattle.tg_unixfs.specs.declared.Unix.{Unix}

-- ---- answers

-- the same fault
pub stands_fault : (block : List ℕ) (fault : BlockFault) (computed : Result Kind BlockFault) → computed ≡ Err fault → StandsForAnswer block (Err fault) computed
stands_fault block fault computed e = subst (λ (r : Result Kind BlockFault). StandsForAnswer block (Err fault) r) (sym e) refl

-- what an answer in place says of the kind that is computed
pub found_of : (block : List ℕ) (result : Result PlacedKind BlockFault) (computed : Result Kind BlockFault) (IsKind : Kind → Type 0)
    → GivesPlaced block result computed → ((kind : Kind) → computed ≡ Ok kind → IsKind kind)
    → IfOk result (λ placed. (kind : Kind) × IsKind kind × StandsForKind block placed kind)
found_of block (Ok placed) (Ok kind) IsKind (inl h) is = (kind, is kind refl, h)
found_of block (Ok placed) (Err fault) IsKind (inl h) is = absurd h
found_of block (Ok placed) computed IsKind (inr h) is = let e : Ok placed ≡ Err faults.OutOfMemory = h.0 in absurd (cc)
found_of block (Err fault) computed IsKind h is = tt

pub only_of : (block : List ℕ) (result : Result PlacedKind BlockFault) (computed : Result Kind BlockFault) (kind : Kind)
    → GivesPlaced block result computed → computed ≡ Ok kind
    → MatchResult result (λ placed. StandsForKind block placed kind) (λ e. e ≡ faults.OutOfMemory)
only_of block (Ok placed) computed kind (inl h) e = subst (λ (r : Result Kind BlockFault). StandsForAnswer block (Ok placed) r) e h
only_of block (Err fault) computed kind (inl h) e = absurd (subst (λ (r : Result Kind BlockFault). StandsForAnswer block (Err fault) r) e h)
only_of block (Ok placed) computed kind (inr h) e = let wrong : Ok placed ≡ Err faults.OutOfMemory = h.0 in absurd (cc)
only_of block (Err fault) computed kind (inr h) e = let same : ◌≡◌ {A = Result PlacedKind BlockFault} (Err fault) (Err faults.OutOfMemory) = h.0 in cc

pub inner_of : (block : List ℕ) (result : Result PlacedKind BlockFault) (computed : Result Kind BlockFault)
    → GivesPlaced block result computed → ((fault : BlockFault) → computed ≡ Err fault → IsNoWantOfMemory fault)
    → IfErr result (λ fault. (fault ≡ faults.OutOfMemory) ⊎ IsNoWantOfMemory fault)
inner_of block (Ok placed) computed h is = tt
inner_of block (Err fault) (Ok kind) (inl h) is = absurd h
inner_of block (Err fault) (Err other) (inl h) is = inr (subst IsNoWantOfMemory (sym h) (is other refl))
inner_of block (Err fault) computed (inr h) is = let same : ◌≡◌ {A = Result PlacedKind BlockFault} (Err fault) (Err faults.OutOfMemory) = h.0 in inl (cc)

-- a file that stands for a kind has a cursor over its parts
cursor_of : (block : List ℕ) (found : PlacedKind) (kind : Kind) → StandsForKind block found kind → HasPartCursor block found
cursor_of block (placed.File places) (File inline filesize parts) h = (parts, h.parts_ahead)
cursor_of block (placed.File places) _ h = absurd h
cursor_of block _ kind h = tt

pub cursor_in : (block : List ℕ) (result : Result PlacedKind BlockFault) (IsKind : Kind → Type 0) → IfOk result (λ found. (kind : Kind) × IsKind kind × StandsForKind block found kind)
    → IfOk result (λ found. HasPartCursor block found)
cursor_in block (Ok found) IsKind h = cursor_of block found h.0 h.2
cursor_in block (Err fault) IsKind h = tt

-- the file that is copied is the one that stands at the places
pub file_is : (block : List ℕ) (places : FilePlaces) (kind : Kind) (inline : List ℕ) (parts : List Part) → StandsForKind block (placed.File places) kind → inline ≡ bytes_of block places.inline
    → ((ps : List Part) → ArePartsAhead block places.parts ps → parts ≡ ps) → File inline places.filesize parts ≡ kind
file_is block places (File i f p) inline parts h e same =
    let a : inline ≡ i = e ∙ h.inline_at.bytes_are in
    let b : places.filesize ≡ f = h.filesize_is in
    let d : parts ≡ p = same p h.parts_ahead in
    cc
file_is block places _ inline parts h e same = absurd h

-- ---- the parts of a file

-- where no size is left, no part is
pub no_parts : (cids : List CidParts) → parts_of cids [] ≡ []
no_parts [] = refl
no_parts (cid ∷ cids) = refl

pub parts_count : (cids : List CidParts) (sizes : List ℕ) → length sizes ≡ length cids → length (parts_of cids sizes) ≡ length cids
parts_count [] sizes e = refl
parts_count (cid ∷ cids) [] e = absurd (omega arith)
parts_count (cid ∷ cids) (size ∷ sizes) e = ap suc (parts_count cids sizes (omega arith))

pub parts_sum : (cids : List CidParts) (sizes : List ℕ) → length sizes ≡ length cids → sum (map (λ (part : Part). part.size) (parts_of cids sizes)) ≡ sum sizes
parts_sum [] [] e = refl
parts_sum [] (size ∷ sizes) e = absurd (omega arith)
parts_sum (cid ∷ cids) [] e = absurd (omega arith)
parts_sum (cid ∷ cids) (size ∷ sizes) e =
    sum_by-cons (λ (n : ℕ). n) size (map (λ (part : Part). part.size) (parts_of cids sizes)) ∙ ap (λ (n : ℕ). size + n) (parts_sum cids sizes (omega arith))
    ∙ sym (sum_by-cons (λ (n : ℕ). n) size sizes)

-- the inline bytes lie at their place in the data, which lies in the block
lies_in : (laws : PlaceLaws) (block : List ℕ) (payload inline : Place) → IsInside block payload → IsInside (bytes_of block payload) inline
    → LieAt block (record { start = payload.start + inline.start; end = payload.start + inline.end }) (bytes_of (bytes_of block payload) inline)
lies_in laws block payload inline h k =
    let size : length (slice_range block payload.start payload.end) ≡ payload.end - payload.start = length-take-le (payload.end - payload.start) (drop payload.start block) (omega (arith, length-drop payload.start block)) in
    record {
      inside = (omega arith, omega arith);
      bytes_are = laws.in_part block payload.start payload.end inline.start inline.end h.0 h.1 k.0 k.1;
    }

pub inline_lies : (laws : PlaceLaws) (block : List ℕ) (places : DataPlaces) (inline : Place) → AreDataPlaces block places → places.unix.inline ≡ Some inline
    → LieAt block (record { start = places.payload.start + inline.start; end = places.payload.start + inline.end }) (inline_of (data_unix block places))
inline_lies laws block places inline h e =
    let text = bytes_of block places.payload in
    let inside : IsInside text inline = subst (λ (o : Option Place). AreInside text o) e h.inline in
    subst (λ (bytes : List ℕ). LieAt block (record { start = places.payload.start + inline.start; end = places.payload.start + inline.end }) bytes)
    (sym (ap (λ (o : Option Place). unwrap_or (placed_bytes text o) []) e)) (lies_in laws block places.payload inline h.payload inside)

-- ---- sums that stand still

pub saturated_more : (m a b c : ℕ) → min (min (a + b) m + c) m ≡ min (a + (b + c)) m
saturated_more m a b c = omega arith

-- a total that stands still at `m`, and a bound that isn't above that
pub small_total : (total n m a : ℕ) → total ≡ min n m → total < a → a ≤ m → (n < a) × (total ≡ n)
small_total total n m a e l k = (omega arith, omega arith)

pub big_total : (total n m a : ℕ) → total ≡ min n m → a ≤ total → a ≤ n
big_total total n m a e l = omega arith

pub below_top : (m n : ℕ) → n < m → n ≤ m - 1
below_top m n l = omega arith

pub saturated_all : (m a rest : ℕ) → rest ≡ 0 → a ≤ m → min (a + rest) m ≡ a
saturated_all m a rest e l = omega arith

-- ---- the steps of reading a node

pub node_fault : (block : List ℕ) (fault : BlockFault) → node_or_fault (node_of block) ≡ Err fault → read_under codecs.DagPb block ≡ Err fault
node_fault block fault e = ap (λ (r : Result Node BlockFault). r >>= read_node) e

-- a node with these links and this payload
with_node : (block : List ℕ) (links : List Link) (payload : Option (List ℕ)) → node_of block ≡ Ok (record { links = links; payload = payload })
    → read_under codecs.DagPb block ≡ (cids_from 0 links >>= λ cids. unix_or_fault payload >>= λ unix. kind_by unix.kind links cids unix)
with_node block links payload node = ap (λ (r : Result Node PbFault). node_or_fault r >>= read_node) node

pub cids_fault : (block : List ℕ) (links : List Link) (payload : Option (List ℕ)) (fault : BlockFault) → node_of block ≡ Ok (record { links = links; payload = payload })
    → cids_from 0 links ≡ Err fault → read_under codecs.DagPb block ≡ Err fault
cids_fault block links payload fault node e =
    with_node block links payload node
    ∙ ap (λ (r : Result (List CidParts) BlockFault). r >>= λ cids. unix_or_fault payload >>= λ unix. kind_by unix.kind links cids unix) e

-- and these CIDs
with_cids : (block : List ℕ) (links : List Link) (cids : List CidParts) (payload : Option (List ℕ)) → node_of block ≡ Ok (record { links = links; payload = payload })
    → cids_from 0 links ≡ Ok cids → read_under codecs.DagPb block ≡ (unix_or_fault payload >>= λ unix. kind_by unix.kind links cids unix)
with_cids block links cids payload node e =
    with_node block links payload node
    ∙ ap (λ (r : Result (List CidParts) BlockFault). r >>= λ cids. unix_or_fault payload >>= λ unix. kind_by unix.kind links cids unix) e

pub unix_fault : (block : List ℕ) (links : List Link) (cids : List CidParts) (payload : Option (List ℕ)) (fault : BlockFault) → node_of block ≡ Ok (record { links = links; payload = payload })
    → cids_from 0 links ≡ Ok cids → unix_or_fault payload ≡ Err fault → read_under codecs.DagPb block ≡ Err fault
unix_fault block links cids payload fault node e f =
    with_cids block links cids payload node e ∙ ap (λ (r : Result Unix BlockFault). r >>= λ unix. kind_by unix.kind links cids unix) f

-- and this data
pub read_as : (block : List ℕ) (links : List Link) (cids : List CidParts) (payload : Option (List ℕ)) (unix : Unix) → node_of block ≡ Ok (record { links = links; payload = payload })
    → cids_from 0 links ≡ Ok cids → unix_or_fault payload ≡ Ok unix → read_under codecs.DagPb block ≡ kind_by unix.kind links cids unix
read_as block links cids payload unix node e f =
    with_cids block links cids payload node e ∙ ap (λ (r : Result Unix BlockFault). r >>= λ unix. kind_by unix.kind links cids unix) f

-- ---- files

-- how many bytes lie at a place
pub lie_length : (block : List ℕ) (place : Place) (bytes : List ℕ) → LieAt block place bytes → place.end - place.start ≡ length bytes
lie_length block place bytes h =
    sym (length-take-le (place.end - place.start) (drop place.start block) (omega (arith, length-drop place.start block, h.inside.0, h.inside.1)))
    ∙ ap (λ (b : List ℕ). length b) h.bytes_are

-- a test that holds is the fault, and one that doesn't leaves the rest
unless_holds : {A : Type 0} (test : Bool) (fault : BlockFault) (result : Result A BlockFault) → test ≡ true → unless test fault result ≡ Err fault
unless_holds true fault result e = refl
unless_holds false fault result e = absurd (cc)

unless_fails : {A : Type 0} (test : Bool) (fault : BlockFault) (result : Result A BlockFault) → test ≡ false → unless test fault result ≡ result
unless_fails false fault result e = refl
unless_fails true fault result e = absurd (cc)

-- another number of sizes
pub other_sizes : (cids : List CidParts) (unix : Unix) → (length unix.sizes ≡ length cids → ⊥) → file_kind cids unix ≡ Err (faults.BadSizes (length cids) (length unix.sizes))
other_sizes cids unix e = unless_holds (not (length unix.sizes == length cids)) (faults.BadSizes (length cids) (length unix.sizes)) _ (ap not (ne_eqb (length unix.sizes) (length cids) e))

-- as many
as_many : (cids : List CidParts) (unix : Unix) → length unix.sizes ≡ length cids
    → file_kind cids unix ≡ unless (not (nat_lt (length (inline_of unix) + sum unix.sizes) (2 ^ 63))) faults.HugeSizes (
    unless (unix.kind == 0 && not (length cids == 0)) faults.BadShape (Ok (File (inline_of unix) unix.filesize (parts_of cids unix.sizes))))
as_many cids unix e = unless_fails (not (length unix.sizes == length cids)) (faults.BadSizes (length cids) (length unix.sizes)) _ (ap not (eq-eqb (length unix.sizes) (length cids) e))

pub huge_sizes : (cids : List CidParts) (unix : Unix) → length unix.sizes ≡ length cids → 2 ^ 63 ≤ length (inline_of unix) + sum unix.sizes → file_kind cids unix ≡ Err faults.HugeSizes
huge_sizes cids unix e l =
    as_many cids unix e ∙ unless_holds (not (nat_lt (length (inline_of unix) + sum unix.sizes) (2 ^ 63))) faults.HugeSizes _ (ap not (le-ltb (length (inline_of unix) + sum unix.sizes) (2 ^ 63) l))

small_sizes : (cids : List CidParts) (unix : Unix) → length unix.sizes ≡ length cids → length (inline_of unix) + sum unix.sizes < 2 ^ 63
    → file_kind cids unix ≡ unless (unix.kind == 0 && not (length cids == 0)) faults.BadShape (Ok (File (inline_of unix) unix.filesize (parts_of cids unix.sizes)))
small_sizes cids unix e l =
    as_many cids unix e ∙ unless_fails (not (nat_lt (length (inline_of unix) + sum unix.sizes) (2 ^ 63))) faults.HugeSizes _ (ap not (lt-ltb (length (inline_of unix) + sum unix.sizes) (2 ^ 63) l))

pub bad_shape : (cids : List CidParts) (unix : Unix) → length unix.sizes ≡ length cids → length (inline_of unix) + sum unix.sizes < 2 ^ 63 → (unix.kind == 0 && not (length cids == 0)) ≡ true
    → file_kind cids unix ≡ Err faults.BadShape
bad_shape cids unix e l t = small_sizes cids unix e l ∙ unless_holds (unix.kind == 0 && not (length cids == 0)) faults.BadShape _ t

pub good_shape : (cids : List CidParts) (unix : Unix) → length unix.sizes ≡ length cids → length (inline_of unix) + sum unix.sizes < 2 ^ 63 → (unix.kind == 0 && not (length cids == 0)) ≡ false
    → file_kind cids unix ≡ Ok (File (inline_of unix) unix.filesize (parts_of cids unix.sizes))
good_shape cids unix e l t = small_sizes cids unix e l ∙ unless_fails (unix.kind == 0 && not (length cids == 0)) faults.BadShape _ t

-- the file at these places
pub file_at : (block : List ℕ) (places : DataPlaces) (inline : Place) (links total : ℕ) (ahead : AllAhead block) → AreDataPlaces block places → LieAt block inline (inline_of (data_unix block places))
    → links ≡ length (block_links block) → length (data_unix block places).sizes ≡ links → total ≡ length (inline_of (data_unix block places)) + sum (data_unix block places).sizes
    → IsFileAt block (record { inline = inline; filesize = places.unix.filesize; total = total; parts = record { link = 0; payload = places.payload; size = 0 }; count = links })
    (inline_of (data_unix block places)) places.unix.filesize (parts_of (block_cids block) (data_unix block places).sizes)
file_at block places inline links total ahead known lies count sizes whole =
    let unix = data_unix block places in
    let cids : length (block_links block) ≡ length (block_cids block) = cids_count (block_links block) (block_cids block) ahead.cids_are in
    let as_cids : length unix.sizes ≡ length (block_cids block) = sizes ∙ count ∙ cids in
    record {
      inline_at = lies;
      filesize_is = refl;
      total_is = λ section. whole ∙ ap (λ (n : ℕ). length (inline_of unix) + n) (sym (parts_sum (block_cids block) unix.sizes as_cids));
      count_is = count ∙ cids ∙ sym (parts_count (block_cids block) unix.sizes as_cids);
      parts_ahead = record {
        links = block_links block;
        cids = block_cids block;
        sizes = unix.sizes;
        links_ahead = ahead;
        inside = known.payload;
        sizes_ahead = known.sizes;
        as_many = sizes ∙ count;
        parts_are = refl;
      };
    }

-- ---- where memory is taken

-- slots, or the fault of a slot
abbrev AreSlotsOrFault : Result (List Slot) BlockFault → Type 0
AreSlotsOrFault (Ok slots) = ⊤
AreSlotsOrFault (Err (faults.BadSlot at)) = ⊤
AreSlotsOrFault _ = ⊥

one_more : (slot : Slot) (rest : Result (List Slot) BlockFault) → AreSlotsOrFault rest → AreSlotsOrFault (rest >>= λ slots. Ok (slot ∷ slots))
one_more slot (Ok slots) h = tt
one_more slot (Err (faults.BadSlot at)) h = tt
one_more slot (Err _) h = absurd h

unless_slot : (test : Bool) (at : ℕ) (rest : Result (List Slot) BlockFault) → AreSlotsOrFault rest → AreSlotsOrFault (unless test (faults.BadSlot at) rest)
unless_slot true at rest h = tt
unless_slot false at rest h = h

slots_or_fault : (at : ℕ) (numbers : List ℕ) (links : List Link) (cids : List CidParts) → AreSlotsOrFault (slots_from at numbers links cids)
slots_or_fault at (number ∷ numbers) (link ∷ links) (cid ∷ cids) =
    unless_slot (not (has_digits number link)) at (slots_from (at + 1) numbers links cids >>= λ slots. Ok (slot_at number link cid ∷ slots))
    (one_more (slot_at number link cid) (slots_from (at + 1) numbers links cids) (slots_or_fault (at + 1) numbers links cids))
slots_or_fault at _ _ _ = tt

shard_of : (slots : Result (List Slot) BlockFault) → AreSlotsOrFault slots → TakesMemory (slots >>= λ slots. Ok (Shard slots))
shard_of (Ok slots) h = tt
shard_of (Err (faults.BadSlot at)) h = tt
shard_of (Err _) h = absurd h

unless_bits : (test : Bool) (bits links : ℕ) (rest : Result Kind BlockFault) → TakesMemory rest → TakesMemory (unless test (faults.BadBits bits links) rest)
unless_bits true bits links rest h = tt
unless_bits false bits links rest h = h

pub shard_takes : (links : List Link) (cids : List CidParts) (bits : List ℕ) → None ≡ first_from has_bad_suffix 0 links → TakesMemory (shard_kind links cids bits)
shard_takes links cids bits e =
    let slots = slots_from 0 (used_slots bits) links cids in
    subst (λ (at : Option ℕ). TakesMemory (unless_at at faults.BadName (unless (is_wrong_count bits links) (faults.BadBits (used_count bits) (length links)) (slots >>= λ slots. Ok (Shard slots))))) e
    (unless_bits (is_wrong_count bits links) (used_count bits) (length links) (slots >>= λ slots. Ok (Shard slots)) (shard_of slots (slots_or_fault 0 (used_slots bits) links cids)))

-- then the slots decide
shard_slots : (links : List Link) (cids : List CidParts) (bits : List ℕ) → None ≡ first_from has_bad_suffix 0 links → length bits ≤ 32 → length (used_slots bits) ≡ length links
    → shard_kind links cids bits ≡ (slots_from 0 (used_slots bits) links cids >>= λ slots. Ok (Shard slots))
shard_slots links cids bits e few many =
    let rest = slots_from 0 (used_slots bits) links cids >>= λ slots. Ok (Shard slots) in
    ap (λ (at : Option ℕ). unless_at at faults.BadName (unless (is_wrong_count bits links) (faults.BadBits (used_count bits) (length links)) rest)) (sym e)
    ∙ unless_fails (is_wrong_count bits links) (faults.BadBits (used_count bits) (length links)) rest (count_ok bits links few many)

pub shard_gives : (block : List ℕ) (links : List Link) (cids : List CidParts) (bits : List ℕ) (fault : BlockFault) → None ≡ first_from has_bad_suffix 0 links → length bits ≤ 32
    → length (used_slots bits) ≡ length links → Gives (slots_from 0 (used_slots bits) links cids) (Err fault) → GivesPlaced block (Err fault) (shard_kind links cids bits)
shard_gives block links cids bits fault e few many (inl same) =
    inl (stands_fault block fault (shard_kind links cids bits) (shard_slots links cids bits e few many ∙ ap (λ (r : Result (List Slot) BlockFault). r >>= λ slots. Ok (Shard slots)) (sym same)))
shard_gives block links cids bits fault e few many (inr wanted) =
    let same : fault ≡ faults.OutOfMemory = cc in
    inr (ap (λ (f : BlockFault). Err f) same, shard_takes links cids bits e)
