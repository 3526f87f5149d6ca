-- What a swarm makes of the root's block.
use Rattle.std.proofs.Common.{Err, List, Ok, Result, [], ap, arith, inl, inr, map, refl, subst, sum, sym, ℕ, ◌<◌, ◌^◌, ◌∙◌, ◌∷◌, ◌≡◌, ◌≢◌, ◌≤◌}
use Rattle.std.proofs.lemmas.List.Sums.{sum-map, sum_by-cons}
use Rattle.std.specs.List.{sum_by}
use Rattle.std.specs.Prelude.{IfOk, ⊤}
use Rattle.tg_cid.specs.Cid.{CidParts}
use Rattle.tg_cid.specs.declared.cid.Codec.{Codec}
use Rattle.tg_cid.specs.declared.cid.Codec.TheVariants as codecs
use Rattle.tg_model.specs.Computed.{read}
use Rattle.tg_model.specs.Dag.{Section, total_of}
use Rattle.tg_model.specs.Placed.{GivesPlaced, StandsForAnswer, StandsForKind}
use Rattle.tg_model.specs.Reading.{Reads, ReadsUnder, parts_of}
use Rattle.tg_model.specs.Sound.{IsFileKind}
use Rattle.tg_model.specs.declared.fault.BlockFault.{BlockFault}
use Rattle.tg_model.specs.declared.fault.BlockFault.TheVariants as block_faults
use Rattle.tg_model.specs.declared.kinds.Kind.{Kind}
use Rattle.tg_model.specs.declared.kinds.Kind.TheVariants.{Basic, File, Raw, Shard, Symlink}
use Rattle.tg_model.specs.declared.kinds.Part.{Part}
use Rattle.tg_model.specs.declared.placed.FilePlaces.{FilePlaces}
use Rattle.tg_model.specs.declared.placed.PlacedKind.{PlacedKind}
use Rattle.tg_model.specs.declared.placed.PlacedKind.TheVariants as placed

-- ---- what is read in place is what is computed

answer_raw : (block : List ℕ) (computed : Result Kind BlockFault) → StandsForAnswer block (Ok placed.Raw) computed → computed ≡ Ok Raw
answer_raw block (Ok Raw) h = refl
answer_raw block (Ok (File inline filesize parts)) h = absurd h
answer_raw block (Ok (Basic entries)) h = absurd h
answer_raw block (Ok (Shard slots)) h = absurd h
answer_raw block (Ok (Symlink target)) h = absurd h
answer_raw block (Err fault) h = absurd h

pub placed_raw : (block : List ℕ) (computed : Result Kind BlockFault) → GivesPlaced block (Ok placed.Raw) computed → computed ≡ Ok Raw
placed_raw block computed (inl h) = answer_raw block computed h
placed_raw block computed (inr h) = absurd (let e : Ok placed.Raw ≡ Err block_faults.OutOfMemory = h.0 in cc)

-- a file, with the number of bytes that it declares
pub record FileIs (total : ℕ) (computed : Result Kind BlockFault) : Type 0 where
  pub kind : Kind
  pub reads : computed ≡ Ok kind
  pub file : IsFileKind kind
  pub total_is : (section : Section) → total ≡ total_of section kind

answer_file : (block : List ℕ) (places : FilePlaces) (computed : Result Kind BlockFault) → StandsForAnswer block (Ok (placed.File places)) computed
    → FileIs places.total computed
answer_file block places (Ok Raw) h = absurd h
answer_file block places (Ok (File inline filesize parts)) h =
    record { kind = File inline filesize parts; reads = refl; file = tt; total_is = h.total_is }
answer_file block places (Ok (Basic entries)) h = absurd h
answer_file block places (Ok (Shard slots)) h = absurd h
answer_file block places (Ok (Symlink target)) h = absurd h
answer_file block places (Err fault) h = absurd h

pub placed_file : (block : List ℕ) (places : FilePlaces) (computed : Result Kind BlockFault) → GivesPlaced block (Ok (placed.File places)) computed
    → FileIs places.total computed
placed_file block places computed (inl h) = answer_file block places computed h
placed_file block places computed (inr h) = absurd (let e : Ok (placed.File places) ≡ Err block_faults.OutOfMemory = h.0 in cc)

-- or none
abbrev pub IsNoFile : PlacedKind → Type 0
IsNoFile placed.Raw = ⊥
IsNoFile (placed.File places) = ⊥
IsNoFile other = ⊤

abbrev pub KindIsNot : Result Kind BlockFault → Type 0
KindIsNot computed = (kind : Kind) × (computed ≡ Ok kind) × (IsFileKind kind → ⊥)

answer_other : (block : List ℕ) (found : PlacedKind) (computed : Result Kind BlockFault) → IsNoFile found → StandsForAnswer block (Ok found) computed
    → KindIsNot computed
answer_other block placed.Raw computed not h = absurd not
answer_other block (placed.File places) computed not h = absurd not
answer_other block (placed.Basic entries) (Ok Raw) not h = absurd h
answer_other block (placed.Basic entries) (Ok (File inline filesize parts)) not h = absurd h
answer_other block (placed.Basic entries) (Ok (Basic found)) not h = (Basic found, refl, λ file. file)
answer_other block (placed.Basic entries) (Ok (Shard slots)) not h = absurd h
answer_other block (placed.Basic entries) (Ok (Symlink target)) not h = absurd h
answer_other block (placed.Shard slots) (Ok Raw) not h = absurd h
answer_other block (placed.Shard slots) (Ok (File inline filesize parts)) not h = absurd h
answer_other block (placed.Shard slots) (Ok (Basic entries)) not h = absurd h
answer_other block (placed.Shard slots) (Ok (Shard found)) not h = (Shard found, refl, λ file. file)
answer_other block (placed.Shard slots) (Ok (Symlink target)) not h = absurd h
answer_other block (placed.Symlink target) (Ok Raw) not h = absurd h
answer_other block (placed.Symlink target) (Ok (File inline filesize parts)) not h = absurd h
answer_other block (placed.Symlink target) (Ok (Basic entries)) not h = absurd h
answer_other block (placed.Symlink target) (Ok (Shard slots)) not h = absurd h
answer_other block (placed.Symlink target) (Ok (Symlink bytes)) not h = (Symlink bytes, refl, λ file. file)
answer_other block (placed.Basic entries) (Err fault) not h = absurd h
answer_other block (placed.Shard slots) (Err fault) not h = absurd h
answer_other block (placed.Symlink target) (Err fault) not h = absurd h

pub placed_other : (block : List ℕ) (found : PlacedKind) (computed : Result Kind BlockFault) → IsNoFile found → GivesPlaced block (Ok found) computed
    → KindIsNot computed
placed_other block found computed not (inl h) = answer_other block found computed not h
placed_other block found computed not (inr h) = absurd (let e : Ok found ≡ Err block_faults.OutOfMemory = h.0 in cc)

answer_fault : (block : List ℕ) (fault : BlockFault) (computed : Result Kind BlockFault) → StandsForAnswer block (Err fault) computed
    → computed ≡ Err fault
answer_fault block fault (Ok kind) h = absurd h
answer_fault block fault (Err other) h = let e : fault ≡ other = h in cc

pub placed_fault : (block : List ℕ) (fault : BlockFault) (computed : Result Kind BlockFault) → fault ≢ block_faults.OutOfMemory
    → GivesPlaced block (Err fault) computed → computed ≡ Err fault
placed_fault block fault computed not (inl h) = answer_fault block fault computed h
placed_fault block fault computed not (inr h) =
    let e : Err fault ≡ Err block_faults.OutOfMemory = h.0 in
    let is : fault ≡ block_faults.OutOfMemory = cc in
    absurd (not is)

-- ---- a file's total is below 2^63

map_same : (xs : List ℕ) → map (λ (n : ℕ). n) xs ≡ xs
map_same [] = refl
map_same (x ∷ xs) = ap (λ (l : List ℕ). x ∷ l) (map_same xs)

sum_same : (xs : List ℕ) → sum xs ≡ sum_by (λ (n : ℕ). n) xs
sum_same xs = ap (λ (l : List ℕ). sum l) (sym (map_same xs)) ∙ sum-map (λ (n : ℕ). n) xs

parts_by : (cids : List CidParts) (sizes : List ℕ) → sum_by (λ (part : Part). part.size) (parts_of cids sizes) ≤ sum_by (λ (n : ℕ). n) sizes
parts_by [] sizes = omega arith
parts_by (cid ∷ cids) [] = omega arith
parts_by (cid ∷ cids) (size ∷ sizes) =
    omega (
      arith,
      parts_by cids sizes,
      sum_by-cons (λ (n : ℕ). n) size sizes,
      sum_by-cons (λ (part : Part). part.size) (record { cid = cid; size = size }) (parts_of cids sizes),
    )

parts_sum : (cids : List CidParts) (sizes : List ℕ) → sum (map (λ (part : Part). part.size) (parts_of cids sizes)) ≤ sum sizes
parts_sum cids sizes =
    omega (arith, parts_by cids sizes, sum_same sizes, sum-map (λ (part : Part). part.size) (parts_of cids sizes))

pub under_total : (root : CidParts) (codec : Codec) (block : List ℕ) (places : FilePlaces) (kind : Kind) → ReadsUnder codec block kind
    → StandsForKind block (placed.File places) kind → places.total < 2 ^ 63
under_total root codecs.Raw block places kind is h = absurd (subst (λ (k : Kind). StandsForKind block (placed.File places) k) is h)
under_total root codecs.DagPb block places kind node h = elim node.reads [
  | inl file ↦
      let at = subst (λ (k : Kind). StandsForKind block (placed.File places) k) file.kind_is h in
      let total = at.total_is (record { cid = root; block = block }) in
      omega (arith, total, file.fits, parts_sum node.cids node.unix.sizes)
  | inr (inl basic) ↦ absurd (subst (λ (k : Kind). StandsForKind block (placed.File places) k) basic.kind_is h)
  | inr (inr (inl shard)) ↦ absurd (subst (λ (k : Kind). StandsForKind block (placed.File places) k) shard.kind_is h)
  | inr (inr (inr link)) ↦ absurd (subst (λ (k : Kind). StandsForKind block (placed.File places) k) link.kind_is h)
]

-- of what was read in place, with what is known of it

pub found_total : (result : Result PlacedKind BlockFault) (places : FilePlaces) (cid : CidParts) (block : List ℕ) → result ≡ Ok (placed.File places)
    → IfOk result (λ found. (kind : Kind) × Reads cid block kind × StandsForKind block found kind) → places.total < 2 ^ 63
found_total result places cid block is found =
    let f = subst (λ (r : Result PlacedKind BlockFault). IfOk r (λ x. (kind : Kind) × Reads cid block kind × StandsForKind block x kind)) is found in
    under_total cid cid.codec block places f.0 f.1 f.2

pub given_of : (result found : Result PlacedKind BlockFault) (slice block : List ℕ) (cid root : CidParts) → result ≡ found → slice ≡ block
    → cid ≡ root
    → GivesPlaced slice result (read cid slice) → GivesPlaced block found (read root block)
given_of result found slice block cid root is same named g =
    subst (λ (r : Result PlacedKind BlockFault). GivesPlaced block r (read root block)) is
    (subst (λ (c : CidParts). GivesPlaced block result (read c block)) named
    (subst (λ (b : List ℕ). GivesPlaced b result (read cid b)) same g))
