-- The kind of a block under its CID, or its first fault, computed. The faults are tried in the order of `BlockFault`.
use Rattle.tg_cid.specs.declared.cid.Codec.TheVariants as codecs
use Rattle.tg_bytes.specs.Ascii.{slash}
use Rattle.tg_model.specs.declared.fault.BlockFault.TheVariants as faults
use Rattle.std.specs.List.{list_all, list_any}
use Rattle.std.specs.Prelude.{min, ◌-◌, Bool, Err, List, None, Ok, Option, Result, Some, [], bytes_eq, drop, false}
use Rattle.std.specs.Prelude.{if◌then◌else◌, length, map, nat_lt, not, sum, take, true, ℕ, ◌&&◌, ◌+◌, ◌==◌, ◌^◌, ◌∷◌}
use Rattle.std.specs.Prelude.{◌≡◌, ◌⊎◌}
use Rattle.tg_cid.specs.Cid.{CidParts}
use Rattle.tg_cid.specs.Computed.{cid_of}
use Rattle.tg_cid.specs.declared.cid.Codec.{Codec}
use Rattle.tg_dagpb.specs.Computed.{node_of}
use Rattle.tg_dagpb.specs.declared.Link.{Link}
use Rattle.tg_dagpb.specs.declared.Node.{Node}
use Rattle.tg_model.specs.InnerFaults.{block_fault_of_pb, block_fault_of_unix}
use Rattle.tg_model.specs.Reading.{entries_of, inline_of, name_of, parts_of, slot_digits, used_slots}
use Rattle.tg_model.specs.declared.fault.BlockFault.{BlockFault}
use Rattle.tg_model.specs.declared.kinds.Kind.{Kind}
use Rattle.tg_model.specs.declared.kinds.Kind.TheVariants.{Basic, File, Raw, Shard, Symlink}
use Rattle.tg_model.specs.declared.kinds.Slot.{Slot}
use Rattle.tg_pbtable.specs.declared.fault.PbFault.{PbFault}
use Rattle.tg_unixfs.specs.Computed.{unix_of}
use Rattle.tg_unixfs.specs.declared.Unix.{Unix}
use Rattle.tg_unixfs.specs.declared.UnixFault.{UnixFault}

-- one reading after another: the first fault is the answer
infixl 10 ◌>>=◌
abbrev pub ◌>>=◌ : {A B : Type 0} → Result A BlockFault → (A → Result B BlockFault) → Result B BlockFault
(Ok x) >>= f = f x
(Err e) >>= f = Err e

-- a fault where the test holds
abbrev pub unless : {A : Type 0} → Bool → BlockFault → Result A BlockFault → Result A BlockFault
unless true fault result = Err fault
unless false fault result = result

-- the index of the first value at which a test holds, counted from `at`
abbrev pub first_from : {A : Type 0} → (A → Bool) → ℕ → List A → Option ℕ
first_from test at [] = None
first_from test at (x ∷ xs) = if test x then Some at else first_from test (at + 1) xs

-- a fault at an index where there is one
abbrev pub unless_at : {A : Type 0} → Option ℕ → (ℕ → BlockFault) → Result A BlockFault → Result A BlockFault
unless_at None fault result = result
unless_at (Some at) fault result = Err (fault at)

-- a name is good
abbrev pub is_good_name : List ℕ → Bool
is_good_name name = not (bytes_eq name []) && (list_all (λ b. not (b == slash) && not (b == 0)) name && (not (bytes_eq name (46 ∷ [])) && not (bytes_eq name (46 ∷ 46 ∷ []))))

-- the index of the first name that stands before, counted from `at`
abbrev pub doubled_from : ℕ → List (List ℕ) → List (List ℕ) → Option ℕ
doubled_from at before [] = None
doubled_from at before (name ∷ names) =
    if list_any (bytes_eq name) before then Some at else doubled_from (at + 1) (name ∷ before) names

-- a CID, or the fault of the link at `at`
abbrev pub cid_or_fault : ℕ → Option CidParts → Result CidParts BlockFault
cid_or_fault at None = Err (faults.BadLink at)
cid_or_fault at (Some cid) = Ok cid

-- the CIDs that the hashes of links are
abbrev pub cids_from : ℕ → List Link → Result (List CidParts) BlockFault
cids_from at [] = Ok []
cids_from at (link ∷ links) =
    cid_or_fault at (cid_of link.hash) >>= λ cid. cids_from (at + 1) links >>= λ cids. Ok (cid ∷ cids)

-- UnixFS Raw and File
abbrev pub file_kind : List CidParts → Unix → Result Kind BlockFault
file_kind cids unix =
    unless (not (length unix.sizes == length cids)) (faults.BadSizes (length cids) (length unix.sizes)) (
    unless (not (nat_lt (length (inline_of unix) + sum unix.sizes) (2 ^ 63))) faults.HugeSizes (
    unless (unix.kind == 0 && not (length cids == 0)) faults.BadShape (
    Ok (File (inline_of unix) unix.filesize (parts_of cids unix.sizes)))))

-- UnixFS Directory
abbrev pub basic_kind : List Link → List CidParts → Result Kind BlockFault
basic_kind links cids =
    unless_at (first_from (λ name. not (is_good_name name)) 0 (map name_of links)) faults.BadName (
    unless_at (doubled_from 0 [] (map name_of links)) faults.DoubledName (
    Ok (Basic (entries_of links cids))))

-- UnixFS HAMTShard: what follows the two digits of a slot in a link's name
abbrev pub suffix_of : Link → List ℕ
suffix_of link = drop 2 (name_of link)

abbrev pub has_bad_suffix : Link → Bool
has_bad_suffix link = nat_lt 2 (length (name_of link)) && not (is_good_name (suffix_of link))

-- whether a link's name begins with the digits of the slot
abbrev pub has_digits : ℕ → Link → Bool
has_digits number link = bytes_eq (take 2 (name_of link)) (slot_digits number)

abbrev pub slot_name : List ℕ → Option (List ℕ)
slot_name [] = None
slot_name (b ∷ name) = Some (b ∷ name)

abbrev pub slot_at : ℕ → Link → CidParts → Slot
slot_at number link cid = record { slot = number; name = slot_name (suffix_of link); cid = cid }

abbrev pub slots_from : ℕ → List ℕ → List Link → List CidParts → Result (List Slot) BlockFault
slots_from at (number ∷ numbers) (link ∷ links) (cid ∷ cids) =
    unless (not (has_digits number link)) (faults.BadSlot at) (
    slots_from (at + 1) numbers links cids >>= λ slots. Ok (slot_at number link cid ∷ slots))
slots_from at _ _ _ = Ok []

abbrev pub is_wrong_count : List ℕ → List Link → Bool
is_wrong_count bits links = not (not (nat_lt 32 (length bits)) && length (used_slots bits) == length links)

-- how many slots are used, so far as 64 bits can tell
abbrev pub used_count : List ℕ → ℕ
used_count bits = min (length (used_slots bits)) (2 ^ 64 - 1)

abbrev pub shard_kind : List Link → List CidParts → List ℕ → Result Kind BlockFault
shard_kind links cids bits =
    unless_at (first_from has_bad_suffix 0 links) faults.BadName (
    unless (is_wrong_count bits links) (faults.BadBits (used_count bits) (length links)) (
    slots_from 0 (used_slots bits) links cids >>= λ slots. Ok (Shard slots)))

-- UnixFS Symlink
abbrev pub symlink_kind : List Link → Unix → Result Kind BlockFault
symlink_kind links unix = unless (not (length links == 0)) faults.BadShape (Ok (Symlink (inline_of unix)))

-- by the type of the data
abbrev pub kind_by : ℕ → List Link → List CidParts → Unix → Result Kind BlockFault
kind_by type links cids unix =
    if type == 1 then basic_kind links cids
    else (if type == 5 then shard_kind links cids (inline_of unix)
    else (if type == 4 then symlink_kind links unix else file_kind cids unix))

-- answers of the crates below, with their faults as faults of a block
abbrev pub node_or_fault : Result Node PbFault → Result Node BlockFault
node_or_fault (Ok node) = Ok node
node_or_fault (Err fault) = Err (block_fault_of_pb fault)

abbrev pub unix_with_fault : Result Unix UnixFault → Result Unix BlockFault
unix_with_fault (Ok unix) = Ok unix
unix_with_fault (Err fault) = Err (block_fault_of_unix fault)

abbrev pub unix_or_fault : Option (List ℕ) → Result Unix BlockFault
unix_or_fault None = Err faults.NoUnix
unix_or_fault (Some payload) = unix_with_fault (unix_of payload)

abbrev pub read_node : Node → Result Kind BlockFault
read_node node =
    cids_from 0 node.links >>= λ cids. unix_or_fault node.payload >>= λ unix. kind_by unix.kind node.links cids unix

abbrev pub read_under : Codec → List ℕ → Result Kind BlockFault
read_under codecs.Raw block = Ok Raw
read_under codecs.DagPb block = node_or_fault (node_of block) >>= read_node

-- the kind of the block under the CID, or its first fault
abbrev pub read : CidParts → List ℕ → Result Kind BlockFault
read cid block = read_under cid.codec block

-- a result is this one, or memory was wanted
abbrev pub Gives : {A : Type 0} → Result A BlockFault → Result A BlockFault → Type 0
Gives given result = (result ≡ given) ⊎ (result ≡ Err faults.OutOfMemory)
