-- How many bytes requests for an audit's queries have at most, the heads of their replies, and their bodies.
use Rattle.std.proofs.Common.{All, Bool, List, [], ap, arith, false, flat_map, length, length-append, lit≤, refl, suc, true, zero, ℕ, ◌*◌, ◌+◌, ◌++◌, ◌/◌, ◌∷◌, ◌≡◌, ◌≤◌}
use Rattle.std.proofs.lemmas.Int.Digits.{length-digits_of_step}
use Rattle.std.proofs.lemmas.List.{length-map}
use Rattle.std.proofs.lemmas.List.Elements.{All-head, All-tail}
use Rattle.std.specs.Int.Digits.{digits_of}
use Rattle.std.specs.Prelude.{codes, if◌then◌else◌, map, nat_lt, ◌%◌, ◌==◌}
use Rattle.tg_base32.specs.Base32.{bits, bits_of_bytes}
use Rattle.tg_base32.specs.Computed.{base32, letters_of}
use Rattle.tg_bytes.specs.Lists.{joined}
use Rattle.tg_car.specs.CarText.{header_map, root_text, string_head}
use Rattle.tg_cid.specs.Cid.{CidParts}
use Rattle.tg_cid.specs.Computed.{cid_text, v1_bytes}
use Rattle.tg_http.specs.Chunks.{chunk_line, hex_digit, hex_text}
use Rattle.tg_http.specs.declared.request.RequestHead.{RequestHead}
use Rattle.tg_model.specs.Dag.{Section}
use Rattle.tg_model.specs.Queries.{QueryParts}
use Rattle.tg_query.specs.Requests.{accept_text, car_with_dups, params_text, path_text, request_text}
use Rattle.tg_reply.specs.Asked.{is_head}
use Rattle.tg_reply.specs.CarBytes.{car_header, car_parts, chunk_bytes, chunked, cid_bytes, section_bytes}
use Rattle.tg_reply.specs.Heads.{NamedValue, car_head, car_status, chunked_coding, field_line, if_closing, if_found, immutable, ipfs_path, phrase_of, digits_of as status_digits}
use Rattle.tg_reply.specs.Replies.{framed_body, unless_head}
use Rattle.tg_varint.specs.Computed.{varint, varint_within}

-- one list behind another
pub join : (a b : List ℕ) (m n : ℕ) → length a ≤ m → length b ≤ n → length (a ++ b) ≤ m + n
join a b m n h k = let both = length-append a b in omega (arith, both, h, k)

-- ---- CIDs

bits_length : (count number : ℕ) → length (bits count number) ≡ count
unfolding bits
bits_length zero number = refl
bits_length (suc count) number = let rest = bits_length count number in omega (arith, rest)

bytes_bits : (bytes : List ℕ) → length (bits_of_bytes bytes) ≡ 8 * length bytes
bytes_bits [] = refl
bytes_bits (b ∷ bytes) =
    let here = bits_length 8 b in
    let rest = bytes_bits bytes in
    let both = length-append (bits 8 b) (bits_of_bytes bytes) in
    omega (arith, here, rest, both)

few_letters : (bs : List ℕ) → length (letters_of bs) ≤ length bs
few_letters [] = omega arith
few_letters (a ∷ []) = omega arith
few_letters (a ∷ b ∷ []) = omega arith
few_letters (a ∷ b ∷ c ∷ []) = omega arith
few_letters (a ∷ b ∷ c ∷ d ∷ []) = omega arith
few_letters (a ∷ b ∷ c ∷ d ∷ e ∷ rest) = let more = few_letters rest in omega (arith, more)

few_base32 : (bytes : List ℕ) → length (base32 bytes) ≤ 8 * length bytes
unfolding base32
few_base32 bytes = let few = few_letters (bits_of_bytes bytes) in let all = bytes_bits bytes in omega (arith, few, all)

few_groups : (more number : ℕ) → length (varint_within more number) ≤ more + 1
few_groups zero number = omega arith
few_groups (suc more) number = by (nat_lt number 128) (few_groups more (number / 128))
  where
    by : (b : Bool) → length (varint_within more (number / 128)) ≤ more + 1
        → length (if b then number ∷ [] else (number % 128 + 128) ∷ varint_within more (number / 128)) ≤ suc more + 1
    by true rest = omega arith
    by false rest = omega (arith, rest)

abbrev pub IsPlainDigest : CidParts → Type 0
IsPlainDigest cid = length cid.digest ≡ 32

pub few_v1 : (cid : CidParts) → IsPlainDigest cid → length (v1_bytes cid) ≤ 44
few_v1 cid is =
    let size = few_groups 8 (length cid.digest) in
    let both = length-append (varint (length cid.digest)) cid.digest in
    omega (arith, size, both, is)

pub few_text : (cid : CidParts) → IsPlainDigest cid → length (cid_text cid) ≤ 353
unfolding cid_text
few_text cid is = let few = few_v1 cid is in let text = few_base32 (v1_bytes cid) in omega (arith, few, text)

-- ---- requests

pub request_fits : (q : QueryParts) (addr : List ℕ) → length (cid_text q.root) ≤ 353 → length (path_text q.path) ≤ 100 → length (params_text q.form q) ≤ 100
    → length (accept_text q.form q) ≤ 100 → length addr ≤ 255 → length (request_text q addr) ≤ 16384
unfolding request_text
request_fits q addr cid path params accept few =
    let closing = 13 ∷ 10 ∷ (codes "Connection: close" ++ (13 ∷ 10 ∷ 13 ∷ 10 ∷ [])) in
    let accepted = accept_text q.form q ++ closing in
    let host = addr ++ 13 ∷ 10 ∷ (codes "Accept: " ++ accepted) in
    let line = codes " HTTP/1.1" ++ 13 ∷ 10 ∷ (codes "Host: " ++ host) in
    let query = 63 ∷ params_text q.form q in
    let names = cid_text q.root ++ (path_text q.path ++ query) in
    let a = length-append (accept_text q.form q) closing in
    let b = length-append addr (13 ∷ 10 ∷ (codes "Accept: " ++ accepted)) in
    let c = length-append names line in
    let d = length-append (cid_text q.root) (path_text q.path ++ query) in
    let e = length-append (path_text q.path) query in
    omega (arith, a, b, c, d, e, cid, path, params, accept, few)

-- ---- heads

field_fits : (name value : List ℕ) (m n : ℕ) → length name ≤ m → length value ≤ n → length (field_line (name, value)) ≤ m + (2 + (n + 2))
field_fits name value m n h k = join name _ m _ h (join (codes ": ") _ 2 _ (lit≤ tt) (join value (13 ∷ 10 ∷ []) n 2 k (lit≤ tt)))

last_fields : (b closes : Bool) → length (flat_map field_line ((if b then [] else chunked_coding ∷ []) ++ if_closing closes)) ≤ 60
last_fields true true = lit≤ tt
last_fields true false = lit≤ tt
last_fields false true = lit≤ tt
last_fields false false = lit≤ tt

found_fits : (found : Bool) (fields : List NamedValue) (n : ℕ) → length (flat_map field_line fields) ≤ n → length (flat_map field_line (if_found found ++ fields)) ≤ 80 + n
found_fits true fields n h = join (field_line immutable) _ 80 n (lit≤ tt) h
found_fits false fields n h = omega (arith, h)

status_fits : (found : Bool) (rest : List ℕ) (n : ℕ) → length rest ≤ n
    → length (status_digits (car_status found) ++ (32 ∷ (phrase_of (car_status found) ++ (13 ∷ 10 ∷ rest)))) ≤ 20 + n
status_fits true rest n h = omega (arith, h)
status_fits false rest n h = omega (arith, h)

pub car_head_fits : (found : Bool) (q : QueryParts) (minor : ℕ) (closes : Bool) → length (cid_text q.root) ≤ 353 → length (path_text q.path) ≤ 100
    → length (car_with_dups q.dups) ≤ 100 → length (car_head found q minor closes) ≤ 16384
car_head_fits found q minor closes cid path dups =
    let rest = (if minor == 0 then [] else chunked_coding ∷ []) ++ if_closing closes in
    let asked = codes "/ipfs/" ++ (cid_text q.root ++ path_text q.path) in
    let last = last_fields (minor == 0) closes in
    let both = length-append (cid_text q.root) (path_text q.path) in
    let path_field = field_fits (codes "X-Ipfs-Path") asked 11 460 (lit≤ tt) (omega (arith, both, cid, path)) in
    let paths = join (field_line (ipfs_path asked)) (flat_map field_line rest) 475 60 (omega (arith, path_field)) last in
    let fields = found_fits found (ipfs_path asked ∷ rest) 535 (omega (arith, paths)) in
    let more = flat_map field_line (if_found found ++ ipfs_path asked ∷ rest) in
    let sniffing = join (field_line (codes "X-Content-Type-Options", codes "nosniff")) more 60 615 (lit≤ tt) (omega (arith, fields)) in
    let attached = join (field_line (codes "Content-Disposition", codes "attachment")) (field_line (codes "X-Content-Type-Options", codes "nosniff") ++ more) 60 675 (lit≤ tt) (omega (arith, sniffing)) in
    let kind = field_fits (codes "Content-Type") (car_with_dups q.dups) 12 100 (lit≤ tt) dups in
    let typed = join (field_line (codes "Content-Type", car_with_dups q.dups)) (field_line (codes "Content-Disposition", codes "attachment") ++ (field_line (codes "X-Content-Type-Options", codes "nosniff") ++ more)) 116 735
    (omega (arith, kind)) (omega (arith, attached)) in
    let all = field_line (codes "Content-Type", car_with_dups q.dups) ++ (field_line (codes "Content-Disposition", codes "attachment") ++ (field_line (codes "X-Content-Type-Options", codes "nosniff") ++ more)) in
    let lines = length-append all (13 ∷ 10 ∷ []) in
    let status = status_fits found (all ++ 13 ∷ 10 ∷ []) 853 (omega (arith, typed, lines)) in
    omega (arith, status)

-- ---- bodies

few_digits : (fuel n : ℕ) → n ≤ fuel → length (digits_of 16 n) ≤ n
few_digits zero n h = let z : n ≡ 0 = omega (arith, h) in omega (arith, ap (λ (k : ℕ). length (digits_of 16 k)) z)
few_digits (suc fuel) zero h = omega arith
few_digits (suc fuel) (suc n) h =
    let step = length-digits_of_step 16 (suc n) (lit≤ tt) (omega arith) in
    let rest = few_digits fuel (suc n / 16) (omega (arith, h)) in
    omega (arith, step, rest)

few_hex : (n : ℕ) → length (hex_text n) ≤ n + 1
few_hex n = by (n == 0)
  where
    by : (b : Bool) → length (if b then 48 ∷ [] else map hex_digit (digits_of 16 n)) ≤ n + 1
    by true = omega arith
    by false = let same = length-map (digits_of 16 n) hex_digit in let few = few_digits n n (omega arith) in omega (arith, same, few)

chunk_fits : (chunk : List ℕ) → length (chunk_bytes chunk) ≤ 2 * length chunk + 5
chunk_fits chunk =
    let line = join (hex_text (length chunk)) (13 ∷ 10 ∷ []) _ 2 (few_hex (length chunk)) (lit≤ tt) in
    let rest = length-append chunk (13 ∷ 10 ∷ []) in
    let all = length-append (chunk_line (length chunk)) (chunk ++ 13 ∷ 10 ∷ []) in
    omega (arith, line, rest, all)

abbrev parts_room : List (List ℕ) → ℕ
parts_room [] = 0
parts_room (part ∷ parts) = 2 * length part + 5 + parts_room parts

joined_fits : (parts : List (List ℕ)) → length (joined parts) ≤ parts_room parts
joined_fits [] = omega arith
joined_fits (part ∷ parts) = let rest = joined_fits parts in let both = length-append part (joined parts) in omega (arith, rest, both)

chunks_fit : (parts : List (List ℕ)) → length (flat_map chunk_bytes parts) ≤ parts_room parts
chunks_fit [] = omega arith
chunks_fit (part ∷ parts) =
    let here = chunk_fits part in
    let rest = chunks_fit parts in
    let both = length-append (chunk_bytes part) (flat_map chunk_bytes parts) in
    omega (arith, here, rest, both)

framed_fits : (minor : ℕ) (parts : List (List ℕ)) → length (framed_body minor false parts) ≤ parts_room parts + 10
framed_fits minor parts = by (minor == 0)
  where
    by : (b : Bool) → length (if b then joined parts else chunked false parts) ≤ parts_room parts + 10
    by true = let few = joined_fits parts in omega (arith, few)
    by false = let few = chunks_fit parts in join (flat_map chunk_bytes parts) _ _ 10 few (lit≤ tt)

-- what a section takes, half of it
abbrev pub room_of : Section → ℕ
room_of section = length section.block + 60

abbrev pub rooms : List Section → ℕ
rooms [] = 0
rooms (section ∷ sections) = room_of section + rooms sections

cid_fits : (cid : CidParts) → IsPlainDigest cid → length (cid_bytes cid) ≤ 44
cid_fits cid is = by (cid.version == 0)
  where
    by : (b : Bool) → length (if b then 0x12 ∷ 0x20 ∷ cid.digest else v1_bytes cid) ≤ 44
    by true = omega (arith, is)
    by false = few_v1 cid is

section_fits : (section : Section) → IsPlainDigest section.cid → length (section_bytes section) ≤ length section.block + 53
section_fits section is =
    let name = cid_fits section.cid is in
    let inside = length-append (cid_bytes section.cid) section.block in
    let size = few_groups 8 (length (cid_bytes section.cid ++ section.block)) in
    let all = length-append (varint (length (cid_bytes section.cid ++ section.block))) (cid_bytes section.cid ++ section.block) in
    omega (arith, name, inside, size, all)

sections_fit : (sections : List Section) → All (λ s. IsPlainDigest s.cid) sections → parts_room (map section_bytes sections) ≤ 2 * rooms sections
sections_fit [] all = omega arith
sections_fit (section ∷ sections) all =
    let here = section_fits section (All-head (λ s. IsPlainDigest s.cid) section sections all) in
    let rest = sections_fit sections (All-tail (λ s. IsPlainDigest s.cid) section sections all) in
    omega (arith, here, rest)

header_fits : (root : CidParts) → IsPlainDigest root → length (car_header root) ≤ 200
header_fits root is =
    let name = few_v1 root is in
    let size = few_groups 8 (length (header_map ((0 ∷ v1_bytes root) ∷ []))) in
    let all = length-append (varint (length (header_map ((0 ∷ v1_bytes root) ∷ [])))) (header_map ((0 ∷ v1_bytes root) ∷ [])) in
    let map_fits = inside in
    omega (arith, size, all, map_fits)
  where
    head : (n : ℕ) (b : Bool) → length (if b then (0x40 + n) ∷ [] else 0x58 ∷ n ∷ []) ≤ 2
    head n true = omega arith
    head n false = omega arith

    root_fits : length (root_text (0 ∷ v1_bytes root)) ≤ 50
    root_fits =
        let few = few_v1 root is in
        let first = head (length (0 ∷ v1_bytes root)) (nat_lt (length (0 ∷ v1_bytes root)) 24) in
        let both = length-append (string_head (length (0 ∷ v1_bytes root))) (0 ∷ v1_bytes root) in
        omega (arith, few, first, both)

    inside : length (header_map ((0 ∷ v1_bytes root) ∷ [])) ≤ 150
    inside =
        let version = 0x67 ∷ (codes "version" ++ 1 ∷ []) in
        let one = root_text (0 ∷ v1_bytes root) in
        let few = root_fits in
        let first = length-append one [] in
        let all = length-append (one ++ []) version in
        omega (arith, few, first, all)

pub body_fits : (head : RequestHead) (root : CidParts) (sections : List Section) → IsPlainDigest root → All (λ s. IsPlainDigest s.cid) sections
    → length (unless_head head (framed_body head.minor false (car_parts root sections))) ≤ 2 * rooms sections + 500
body_fits head root sections is all = by (is_head head.method)
  where
    by : (b : Bool) → length (if b then [] else framed_body head.minor false (car_parts root sections)) ≤ 2 * rooms sections + 500
    by true = omega arith
    by false =
        let framed = framed_fits head.minor (car_parts root sections) in
        let first = header_fits root is in
        let rest = sections_fit sections all in
        omega (arith, framed, first, rest)
