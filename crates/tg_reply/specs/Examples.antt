-- Worked examples: requests, small stores, and what is replied, byte for byte.
use Rattle.httparse.specs.Ascii.{crlf_bytes}
use Rattle.std.specs.List.{flat_map}
use Rattle.std.specs.Prelude.{List, None, Option, Some, [], bytes_eq, codes, false, if◌then◌else◌, true, ℕ, ◌++◌, ◌∷◌}
use Rattle.tg_bytes.specs.Ascii.{line_feed}
use Rattle.tg_cid.specs.Cid.{CidParts}
use Rattle.tg_http.specs.declared.request.RequestHead.{RequestHead}
use Rattle.tg_model.specs.Stores.{Store}
use Rattle.tg_reply.specs.Replies.{Reply}
use Rattle.tg_reply.specs.declared.status.Status.{Status}
use Rattle.tg_reply.specs.declared.status.Status.TheVariants as statuses

-- ---- stores

-- a store of blocks by the digests of their CIDs
abbrev pub stored_by : List (List ℕ × List ℕ) → CidParts → Option (List ℕ)
stored_by [] cid = None
stored_by (pair ∷ pairs) cid = if bytes_eq cid.digest pair.0 then Some pair.1 else stored_by pairs cid

-- the empty directory
abbrev pub empty_digest : List ℕ
empty_digest =
    0x59 ∷ 0x94 ∷ 0x84 ∷ 0x39 ∷ 0x06 ∷ 0x5f ∷ 0x29 ∷ 0x61 ∷ 0x9e ∷ 0xf4 ∷ 0x12 ∷ 0x80 ∷ 0xcb ∷ 0xb9 ∷ 0x32 ∷ 0xbe ∷ 0x52 ∷ 0xc5 ∷ 0x6d ∷ 0x99 ∷ 0xc5 ∷ 0x96 ∷ 0x6b ∷ 0x65 ∷ 0xe0 ∷ 0x11 ∷ 0x12 ∷ 0x39 ∷ 0xf0 ∷ 0x98 ∷ 0xbb ∷ 0xef ∷ []

abbrev pub empty_block : List ℕ
empty_block = 0x0a ∷ 0x02 ∷ 0x08 ∷ 0x01 ∷ []

-- the raw block `hello world`
abbrev pub hello_digest : List ℕ
hello_digest =
    0xb9 ∷ 0x4d ∷ 0x27 ∷ 0xb9 ∷ 0x93 ∷ 0x4d ∷ 0x3e ∷ 0x08 ∷ 0xa5 ∷ 0x2e ∷ 0x52 ∷ 0xd7 ∷ 0xda ∷ 0x7d ∷ 0xab ∷ 0xfa ∷ 0xc4 ∷ 0x84 ∷ 0xef ∷ 0xe3 ∷ 0x7a ∷ 0x53 ∷ 0x80 ∷ 0xee ∷ 0x90 ∷ 0x88 ∷ 0xf7 ∷ 0xac ∷ 0xe2 ∷ 0xef ∷ 0xcd ∷ 0xe9 ∷ []

-- a block that is no DAG-PB node
abbrev pub unreadable_digest : List ℕ
unreadable_digest =
    0x01 ∷ 0xba ∷ 0x47 ∷ 0x19 ∷ 0xc8 ∷ 0x0b ∷ 0x6f ∷ 0xe9 ∷ 0x11 ∷ 0xb0 ∷ 0x91 ∷ 0xa7 ∷ 0xc0 ∷ 0x51 ∷ 0x24 ∷ 0xb6 ∷ 0x4e ∷ 0xee ∷ 0xce ∷ 0x96 ∷ 0x4e ∷ 0x09 ∷ 0xc0 ∷ 0x58 ∷ 0xef ∷ 0x8f ∷ 0x98 ∷ 0x05 ∷ 0xda ∷ 0xca ∷ 0x54 ∷ 0x6b ∷ []

abbrev pub unreadable_block : List ℕ
unreadable_block = 0x0a ∷ []

-- a directory whose one entry, `a`, is the empty directory
abbrev pub folder_digest : List ℕ
folder_digest =
    0x90 ∷ 0x93 ∷ 0xf0 ∷ 0xd3 ∷ 0x3a ∷ 0x29 ∷ 0xdc ∷ 0xab ∷ 0x86 ∷ 0xc6 ∷ 0x7a ∷ 0xe4 ∷ 0xc9 ∷ 0x51 ∷ 0x35 ∷ 0x4d ∷ 0xd7 ∷ 0xab ∷ 0x6e ∷ 0x20 ∷ 0xd2 ∷ 0x22 ∷ 0xf1 ∷ 0x5c ∷ 0xbf ∷ 0x92 ∷ 0x40 ∷ 0x10 ∷ 0x6a ∷ 0x33 ∷ 0xea ∷ 0xfc ∷ []

abbrev pub folder_block : List ℕ
folder_block =
    0x12 ∷ 0x2b ∷ 0x0a ∷ 0x24 ∷ 0x01 ∷ 0x70 ∷ 0x12 ∷ 0x20 ∷ 0x59 ∷ 0x94 ∷ 0x84 ∷ 0x39 ∷ 0x06 ∷ 0x5f ∷ 0x29 ∷ 0x61 ∷ 0x9e ∷ 0xf4 ∷ 0x12 ∷ 0x80 ∷ 0xcb ∷ 0xb9 ∷ 0x32 ∷ 0xbe ∷ 0x52 ∷ 0xc5 ∷ 0x6d ∷ 0x99 ∷ 0xc5 ∷ 0x96 ∷ 0x6b ∷ 0x65 ∷ 0xe0 ∷ 0x11 ∷ 0x12 ∷ 0x39 ∷ 0xf0 ∷ 0x98 ∷ 0xbb ∷ 0xef ∷ 0x12 ∷ 0x01 ∷ 0x61 ∷ 0x18 ∷ 0x04 ∷ 0x0a ∷ 0x02 ∷ 0x08 ∷ 0x01 ∷ []

-- three roots
abbrev pub three_roots : Store
three_roots =
    stored_by ((empty_digest, empty_block) ∷ (hello_digest, codes "hello world") ∷ (unreadable_digest, unreadable_block) ∷ [])

-- the directory without its entry
abbrev pub folder_alone : Store
folder_alone = stored_by ((folder_digest, folder_block) ∷ [])

-- ---- requests

abbrev pub request : List ℕ → ℕ → List ℕ → List (List ℕ) → RequestHead
request method minor target accept =
    record { used = 0; method = method; target = target; minor = minor; accept = accept; close = false; framed = false }

-- by GET over HTTP/1.1, for a CAR
abbrev pub get : List ℕ → RequestHead
get target = request (codes "GET") 1 target (codes "application/vnd.ipld.car" ∷ [])

abbrev pub empty_root : List ℕ
empty_root = codes "/ipfs/bafybeiczsscdsbs7ffqz55asqdf3smv6klcw3gofszvwlyarci47bgf354"

abbrev pub hello_root : List ℕ
hello_root = codes "/ipfs/bafkreifzjut3te2nhyekklss27nh3k72ysco7y32koao5eei66wof36n5e"

abbrev pub unreadable_root : List ℕ
unreadable_root = codes "/ipfs/bafybeiabxjdrtsaln7urdmeru7afcjfwj3xm5fsobhafr34ptac5vssunm"

abbrev pub folder_root : List ℕ
folder_root = codes "/ipfs/bafybeieqspyngorj3svynrt24tevcnkn26vw4igselyvzp4siaigum7k7q"

-- ---- replies

-- lines, each with CR LF, and an empty one
abbrev pub lines : List (List ℕ) → List ℕ
lines texts = flat_map (λ text. text ++ crlf_bytes) texts ++ crlf_bytes

-- the head with the CAR of the empty directory
abbrev pub empty_head : List ℕ
empty_head = lines (
    codes "HTTP/1.1 200 OK"
    ∷ codes "Content-Type: application/vnd.ipld.car; version=1; order=dfs; dups=y"
    ∷ codes "Content-Disposition: attachment"
    ∷ codes "X-Content-Type-Options: nosniff"
    ∷ codes "Cache-Control: public, max-age=29030400, immutable"
    ∷ codes "X-Ipfs-Path: /ipfs/bafybeiczsscdsbs7ffqz55asqdf3smv6klcw3gofszvwlyarci47bgf354"
    ∷ codes "Transfer-Encoding: chunked" ∷ [])

-- to HTTP/1.0
abbrev pub empty_head_plain : List ℕ
empty_head_plain = lines (
    codes "HTTP/1.1 200 OK"
    ∷ codes "Content-Type: application/vnd.ipld.car; version=1; order=dfs; dups=y"
    ∷ codes "Content-Disposition: attachment"
    ∷ codes "X-Content-Type-Options: nosniff"
    ∷ codes "Cache-Control: public, max-age=29030400, immutable"
    ∷ codes "X-Ipfs-Path: /ipfs/bafybeiczsscdsbs7ffqz55asqdf3smv6klcw3gofszvwlyarci47bgf354"
    ∷ codes "Connection: close" ∷ [])

-- where an entry of it isn't there
abbrev pub absence_head : List ℕ
absence_head = lines (
    codes "HTTP/1.1 404 Not Found"
    ∷ codes "Content-Type: application/vnd.ipld.car; version=1; order=dfs; dups=y"
    ∷ codes "Content-Disposition: attachment"
    ∷ codes "X-Content-Type-Options: nosniff"
    ∷ codes "X-Ipfs-Path: /ipfs/bafybeiczsscdsbs7ffqz55asqdf3smv6klcw3gofszvwlyarci47bgf354/x"
    ∷ codes "Transfer-Encoding: chunked" ∷ [])

-- to HTTP/1.0
abbrev pub absence_head_plain : List ℕ
absence_head_plain = lines (
    codes "HTTP/1.1 404 Not Found"
    ∷ codes "Content-Type: application/vnd.ipld.car; version=1; order=dfs; dups=y"
    ∷ codes "Content-Disposition: attachment"
    ∷ codes "X-Content-Type-Options: nosniff"
    ∷ codes "X-Ipfs-Path: /ipfs/bafybeiczsscdsbs7ffqz55asqdf3smv6klcw3gofszvwlyarci47bgf354/x"
    ∷ codes "Connection: close" ∷ [])

-- where a raw block is no directory
abbrev pub hello_absence_head : List ℕ
hello_absence_head = lines (
    codes "HTTP/1.1 404 Not Found"
    ∷ codes "Content-Type: application/vnd.ipld.car; version=1; order=dfs; dups=y"
    ∷ codes "Content-Disposition: attachment"
    ∷ codes "X-Content-Type-Options: nosniff"
    ∷ codes "X-Ipfs-Path: /ipfs/bafkreifzjut3te2nhyekklss27nh3k72ysco7y32koao5eei66wof36n5e/x"
    ∷ codes "Transfer-Encoding: chunked" ∷ [])

-- with the raw block of the empty directory
abbrev pub empty_head_raw : List ℕ
empty_head_raw = lines (
    codes "HTTP/1.1 200 OK"
    ∷ codes "Content-Type: application/vnd.ipld.raw"
    ∷ codes "Content-Disposition: attachment"
    ∷ codes "X-Content-Type-Options: nosniff"
    ∷ codes "Cache-Control: public, max-age=29030400, immutable"
    ∷ codes "X-Ipfs-Path: /ipfs/bafybeiczsscdsbs7ffqz55asqdf3smv6klcw3gofszvwlyarci47bgf354"
    ∷ codes "Content-Length: 4" ∷ [])

-- the CAR of the empty directory, of 59 and 41 bytes
abbrev pub empty_car_header : List ℕ
empty_car_header =
    0x3a ∷ 0xa2 ∷ 0x65 ∷ 0x72 ∷ 0x6f ∷ 0x6f ∷ 0x74 ∷ 0x73 ∷ 0x81 ∷ 0xd8 ∷ 0x2a ∷ 0x58 ∷ 0x25 ∷ 0x00 ∷ 0x01 ∷ 0x70 ∷ 0x12 ∷ 0x20 ∷ 0x59 ∷ 0x94 ∷ 0x84 ∷ 0x39 ∷ 0x06 ∷ 0x5f ∷ 0x29 ∷ 0x61 ∷ 0x9e ∷ 0xf4 ∷ 0x12 ∷ 0x80 ∷ 0xcb ∷ 0xb9 ∷ 0x32 ∷ 0xbe ∷ 0x52 ∷ 0xc5 ∷ 0x6d ∷ 0x99 ∷ 0xc5 ∷ 0x96 ∷ 0x6b ∷ 0x65 ∷ 0xe0 ∷ 0x11 ∷ 0x12 ∷ 0x39 ∷ 0xf0 ∷ 0x98 ∷ 0xbb ∷ 0xef ∷ 0x67 ∷ 0x76 ∷ 0x65 ∷ 0x72 ∷ 0x73 ∷ 0x69 ∷ 0x6f ∷ 0x6e ∷ 0x01 ∷ []

abbrev pub empty_car_section : List ℕ
empty_car_section =
    0x28 ∷ 0x01 ∷ 0x70 ∷ 0x12 ∷ 0x20 ∷ 0x59 ∷ 0x94 ∷ 0x84 ∷ 0x39 ∷ 0x06 ∷ 0x5f ∷ 0x29 ∷ 0x61 ∷ 0x9e ∷ 0xf4 ∷ 0x12 ∷ 0x80 ∷ 0xcb ∷ 0xb9 ∷ 0x32 ∷ 0xbe ∷ 0x52 ∷ 0xc5 ∷ 0x6d ∷ 0x99 ∷ 0xc5 ∷ 0x96 ∷ 0x6b ∷ 0x65 ∷ 0xe0 ∷ 0x11 ∷ 0x12 ∷ 0x39 ∷ 0xf0 ∷ 0x98 ∷ 0xbb ∷ 0xef ∷ 0x0a ∷ 0x02 ∷ 0x08 ∷ 0x01 ∷ []

-- in chunks these are 117 bytes
abbrev pub empty_chunks : List ℕ
empty_chunks =
    codes "3b" ++ (crlf_bytes ++ (empty_car_header ++ (crlf_bytes
    ++ (codes "29" ++ (crlf_bytes ++ (empty_car_section ++ (crlf_bytes
    ++ (codes "0" ++ (crlf_bytes ++ crlf_bytes)))))))))

-- the CAR of a raw block, of 59 and 48 bytes, and its chunks
abbrev pub hello_car_header : List ℕ
hello_car_header =
    0x3a ∷ 0xa2 ∷ 0x65 ∷ 0x72 ∷ 0x6f ∷ 0x6f ∷ 0x74 ∷ 0x73 ∷ 0x81 ∷ 0xd8 ∷ 0x2a ∷ 0x58 ∷ 0x25 ∷ 0x00 ∷ 0x01 ∷ 0x55 ∷ 0x12 ∷ 0x20 ∷ 0xb9 ∷ 0x4d ∷ 0x27 ∷ 0xb9 ∷ 0x93 ∷ 0x4d ∷ 0x3e ∷ 0x08 ∷ 0xa5 ∷ 0x2e ∷ 0x52 ∷ 0xd7 ∷ 0xda ∷ 0x7d ∷ 0xab ∷ 0xfa ∷ 0xc4 ∷ 0x84 ∷ 0xef ∷ 0xe3 ∷ 0x7a ∷ 0x53 ∷ 0x80 ∷ 0xee ∷ 0x90 ∷ 0x88 ∷ 0xf7 ∷ 0xac ∷ 0xe2 ∷ 0xef ∷ 0xcd ∷ 0xe9 ∷ 0x67 ∷ 0x76 ∷ 0x65 ∷ 0x72 ∷ 0x73 ∷ 0x69 ∷ 0x6f ∷ 0x6e ∷ 0x01 ∷ []

abbrev pub hello_car_section : List ℕ
hello_car_section =
    0x2f ∷ 0x01 ∷ 0x55 ∷ 0x12 ∷ 0x20 ∷ 0xb9 ∷ 0x4d ∷ 0x27 ∷ 0xb9 ∷ 0x93 ∷ 0x4d ∷ 0x3e ∷ 0x08 ∷ 0xa5 ∷ 0x2e ∷ 0x52 ∷ 0xd7 ∷ 0xda ∷ 0x7d ∷ 0xab ∷ 0xfa ∷ 0xc4 ∷ 0x84 ∷ 0xef ∷ 0xe3 ∷ 0x7a ∷ 0x53 ∷ 0x80 ∷ 0xee ∷ 0x90 ∷ 0x88 ∷ 0xf7 ∷ 0xac ∷ 0xe2 ∷ 0xef ∷ 0xcd ∷ 0xe9 ∷ 0x68 ∷ 0x65 ∷ 0x6c ∷ 0x6c ∷ 0x6f ∷ 0x20 ∷ 0x77 ∷ 0x6f ∷ 0x72 ∷ 0x6c ∷ 0x64 ∷ []

abbrev pub hello_chunks : List ℕ
hello_chunks =
    codes "3b" ++ (crlf_bytes ++ (hello_car_header ++ (crlf_bytes
    ++ (codes "30" ++ (crlf_bytes ++ (hello_car_section ++ (crlf_bytes
    ++ (codes "0" ++ (crlf_bytes ++ crlf_bytes)))))))))

-- the head with the CAR of the directory, and its chunks up to where its entry is missing
abbrev pub folder_head : List ℕ
folder_head = lines (
    codes "HTTP/1.1 200 OK"
    ∷ codes "Content-Type: application/vnd.ipld.car; version=1; order=dfs; dups=y"
    ∷ codes "Content-Disposition: attachment"
    ∷ codes "X-Content-Type-Options: nosniff"
    ∷ codes "Cache-Control: public, max-age=29030400, immutable"
    ∷ codes "X-Ipfs-Path: /ipfs/bafybeieqspyngorj3svynrt24tevcnkn26vw4igselyvzp4siaigum7k7q"
    ∷ codes "Transfer-Encoding: chunked" ∷ [])

abbrev pub folder_car_header : List ℕ
folder_car_header =
    0x3a ∷ 0xa2 ∷ 0x65 ∷ 0x72 ∷ 0x6f ∷ 0x6f ∷ 0x74 ∷ 0x73 ∷ 0x81 ∷ 0xd8 ∷ 0x2a ∷ 0x58 ∷ 0x25 ∷ 0x00 ∷ 0x01 ∷ 0x70 ∷ 0x12 ∷ 0x20 ∷ 0x90 ∷ 0x93 ∷ 0xf0 ∷ 0xd3 ∷ 0x3a ∷ 0x29 ∷ 0xdc ∷ 0xab ∷ 0x86 ∷ 0xc6 ∷ 0x7a ∷ 0xe4 ∷ 0xc9 ∷ 0x51 ∷ 0x35 ∷ 0x4d ∷ 0xd7 ∷ 0xab ∷ 0x6e ∷ 0x20 ∷ 0xd2 ∷ 0x22 ∷ 0xf1 ∷ 0x5c ∷ 0xbf ∷ 0x92 ∷ 0x40 ∷ 0x10 ∷ 0x6a ∷ 0x33 ∷ 0xea ∷ 0xfc ∷ 0x67 ∷ 0x76 ∷ 0x65 ∷ 0x72 ∷ 0x73 ∷ 0x69 ∷ 0x6f ∷ 0x6e ∷ 0x01 ∷ []

abbrev pub folder_car_section : List ℕ
folder_car_section =
    0x55 ∷ 0x01 ∷ 0x70 ∷ 0x12 ∷ 0x20 ∷ 0x90 ∷ 0x93 ∷ 0xf0 ∷ 0xd3 ∷ 0x3a ∷ 0x29 ∷ 0xdc ∷ 0xab ∷ 0x86 ∷ 0xc6 ∷ 0x7a ∷ 0xe4 ∷ 0xc9 ∷ 0x51 ∷ 0x35 ∷ 0x4d ∷ 0xd7 ∷ 0xab ∷ 0x6e ∷ 0x20 ∷ 0xd2 ∷ 0x22 ∷ 0xf1 ∷ 0x5c ∷ 0xbf ∷ 0x92 ∷ 0x40 ∷ 0x10 ∷ 0x6a ∷ 0x33 ∷ 0xea ∷ 0xfc ∷ 0x12 ∷ 0x2b ∷ 0x0a ∷ 0x24 ∷ 0x01 ∷ 0x70 ∷ 0x12 ∷ 0x20 ∷ 0x59 ∷ 0x94 ∷ 0x84 ∷ 0x39 ∷ 0x06 ∷ 0x5f ∷ 0x29 ∷ 0x61 ∷ 0x9e ∷ 0xf4 ∷ 0x12 ∷ 0x80 ∷ 0xcb ∷ 0xb9 ∷ 0x32 ∷ 0xbe ∷ 0x52 ∷ 0xc5 ∷ 0x6d ∷ 0x99 ∷ 0xc5 ∷ 0x96 ∷ 0x6b ∷ 0x65 ∷ 0xe0 ∷ 0x11 ∷ 0x12 ∷ 0x39 ∷ 0xf0 ∷ 0x98 ∷ 0xbb ∷ 0xef ∷ 0x12 ∷ 0x01 ∷ 0x61 ∷ 0x18 ∷ 0x04 ∷ 0x0a ∷ 0x02 ∷ 0x08 ∷ 0x01 ∷ []

abbrev pub folder_chunks : List ℕ
folder_chunks =
    codes "3b" ++ (crlf_bytes ++ (folder_car_header ++ (crlf_bytes
    ++ (codes "56" ++ (crlf_bytes ++ (folder_car_section ++ crlf_bytes))))))

-- a reply that isn't cut and leaves the connection open
abbrev pub open_reply : Status → List ℕ → List ℕ → Reply
open_reply status head body = record { status = status; head = head; body = body; cut = false; closes = false }

-- a text reply: its status line, the number of its bytes, and its word
abbrev pub text_head : List ℕ → List ℕ → List ℕ
text_head status size =
    lines (status ∷ codes "Content-Type: text/plain; charset=utf-8" ∷ codes "X-Content-Type-Options: nosniff" ∷ (codes "Content-Length: " ++ size) ∷ [])

abbrev pub text_reply : Status → List ℕ → List ℕ → List ℕ → Reply
text_reply status line size word = open_reply status (text_head line size) (word ++ line_feed ∷ [])

abbrev pub bad_request : List ℕ → List ℕ → Reply
bad_request = text_reply statuses.BadRequest (codes "HTTP/1.1 400 Bad Request")

abbrev pub not_found : List ℕ → List ℕ → Reply
not_found = text_reply statuses.NotFound (codes "HTTP/1.1 404 Not Found")

abbrev pub server_error : List ℕ → List ℕ → Reply
server_error = text_reply statuses.ServerError (codes "HTTP/1.1 500 Internal Server Error")

abbrev pub not_acceptable : Reply
not_acceptable = text_reply statuses.NotAcceptable (codes "HTTP/1.1 406 Not Acceptable") (codes "9") (codes "BadParam")

abbrev pub bad_method : Reply
bad_method =
    open_reply statuses.MethodNotAllowed
    (lines (
    codes "HTTP/1.1 405 Method Not Allowed"
    ∷ codes "Content-Type: text/plain; charset=utf-8"
    ∷ codes "X-Content-Type-Options: nosniff"
    ∷ codes "Allow: GET, HEAD"
    ∷ codes "Content-Length: 10" ∷ []))
    (codes "BadMethod" ++ line_feed ∷ [])

-- a text reply behind which the connection closes
abbrev pub closing_reply : Status → List ℕ → List ℕ → List ℕ → Reply
closing_reply status line size word = record {
  status = status;
  head = lines (
      line
      ∷ codes "Content-Type: text/plain; charset=utf-8"
      ∷ codes "X-Content-Type-Options: nosniff"
      ∷ (codes "Content-Length: " ++ size)
      ∷ codes "Connection: close" ∷ []);
  body = word ++ line_feed ∷ [];
  cut = false;
  closes = true;
}

abbrev pub head_limit : Reply
head_limit =
    closing_reply statuses.FieldsTooLarge (codes "HTTP/1.1 431 Request Header Fields Too Large") (codes "10") (codes "HeadLimit")

abbrev pub bad_head : Reply
bad_head = closing_reply statuses.BadRequest (codes "HTTP/1.1 400 Bad Request") (codes "8") (codes "BadHead")

abbrev pub bad_framing : Reply
bad_framing = closing_reply statuses.BadRequest (codes "HTTP/1.1 400 Bad Request") (codes "11") (codes "BadFraming")

-- ---- a stream of bytes

-- the text of a request
abbrev pub request_lines : List ℕ → List ℕ
request_lines target = lines ((codes "GET " ++ (target ++ codes " HTTP/1.1")) ∷ codes "Host: 127.0.0.1:8080" ∷ codes "Accept: application/vnd.ipld.car" ∷ [])

-- for the empty directory, and then for an entry of it
abbrev pub first_target : List ℕ
first_target = empty_root

abbrev pub second_target : List ℕ
second_target = empty_root ++ codes "/x"

abbrev pub first_bytes : List ℕ
first_bytes = empty_head ++ empty_chunks

abbrev pub second_bytes : List ℕ
second_bytes = absence_head ++ empty_chunks
