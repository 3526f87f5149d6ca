-- The heads of replies (RFC 9112, sections 4 to 6; Trustless Gateway specification, response headers).
use Rattle.httparse.specs.Ascii.{crlf_bytes}
use Rattle.std.specs.List.{flat_map}
use Rattle.std.specs.Prelude.{Bool, List, [], codes, decimal, if◌then◌else◌, length, true, ℕ, ◌++◌, ◌==◌, ◌∷◌}
use Rattle.tg_bytes.specs.Ascii.{line_feed, space}
use Rattle.tg_cid.specs.Computed.{cid_text}
use Rattle.tg_model.specs.Queries.{QueryParts}
use Rattle.tg_query.specs.Accepts.{raw_type}
use Rattle.tg_query.specs.Requests.{car_with_dups, path_text}
use Rattle.tg_reply.specs.Refusals.{status_of, word_of}
use Rattle.tg_reply.specs.declared.refusal.Refusal.{Refusal}
use Rattle.tg_reply.specs.declared.status.Status.{Status}
use Rattle.tg_reply.specs.declared.status.Status.TheVariants as statuses

-- the three digits of a status, and its phrase
abbrev pub digits_of : Status → List ℕ
digits_of statuses.Ok = codes "200"
digits_of statuses.BadRequest = codes "400"
digits_of statuses.NotFound = codes "404"
digits_of statuses.MethodNotAllowed = codes "405"
digits_of statuses.NotAcceptable = codes "406"
digits_of statuses.FieldsTooLarge = codes "431"
digits_of statuses.ServerError = codes "500"

abbrev pub phrase_of : Status → List ℕ
phrase_of statuses.Ok = codes "OK"
phrase_of statuses.BadRequest = codes "Bad Request"
phrase_of statuses.NotFound = codes "Not Found"
phrase_of statuses.MethodNotAllowed = codes "Method Not Allowed"
phrase_of statuses.NotAcceptable = codes "Not Acceptable"
phrase_of statuses.FieldsTooLarge = codes "Request Header Fields Too Large"
phrase_of statuses.ServerError = codes "Internal Server Error"

-- ---- fields

-- a field: its name and its value
abbrev pub NamedValue : Type 0
NamedValue = List ℕ × List ℕ

abbrev pub content_type : List ℕ → NamedValue
content_type kind = (codes "Content-Type", kind)

abbrev pub attachment : NamedValue
attachment = (codes "Content-Disposition", codes "attachment")

-- no other type is to be guessed (Fetch standard, X-Content-Type-Options)
abbrev pub no_sniffing : NamedValue
no_sniffing = (codes "X-Content-Type-Options", codes "nosniff")

-- what a CID names never changes (RFC 8246)
abbrev pub immutable : NamedValue
immutable = (codes "Cache-Control", codes "public, max-age=29030400, immutable")

-- the root and the path that were asked for, the segments escaped
abbrev pub asked_path : QueryParts → List ℕ
asked_path q = codes "/ipfs/" ++ (cid_text q.root ++ path_text q.path)

abbrev pub ipfs_path : List ℕ → NamedValue
ipfs_path path = (codes "X-Ipfs-Path", path)

abbrev pub content_length : ℕ → NamedValue
content_length size = (codes "Content-Length", decimal size)

abbrev pub chunked_coding : NamedValue
chunked_coding = (codes "Transfer-Encoding", codes "chunked")

-- the methods that are served, which a reply of status 405 tells (RFC 9110, section 15.5.6)
abbrev pub allow : NamedValue
allow = (codes "Allow", codes "GET, HEAD")

abbrev pub close : NamedValue
close = (codes "Connection", codes "close")

-- the connection closes behind the reply, and its head says so last (RFC 9112, section 9.6)
abbrev pub if_closing : Bool → List NamedValue
if_closing closes = if closes then close ∷ [] else []

-- HTTP/1.0 knows no chunks: there the body goes on until the connection closes (RFC 9112, section 6.1)
abbrev pub if_chunked : ℕ → List NamedValue
if_chunked minor = if minor == 0 then [] else chunked_coding ∷ []

abbrev pub if_method : Status → List NamedValue
if_method statuses.MethodNotAllowed = allow ∷ []
if_method statuses.Ok = []
if_method statuses.BadRequest = []
if_method statuses.NotFound = []
if_method statuses.NotAcceptable = []
if_method statuses.FieldsTooLarge = []
if_method statuses.ServerError = []

-- ---- heads

-- the line of a field
abbrev pub field_line : NamedValue → List ℕ
field_line field = field.0 ++ (codes ": " ++ (field.1 ++ crlf_bytes))

-- a status line, the lines of the fields, an empty line
abbrev pub head_text : Status → List NamedValue → List ℕ
head_text status fields =
    codes "HTTP/1.1 " ++ (digits_of status ++ (space ∷ (phrase_of status ++ (crlf_bytes ++ (flat_map field_line fields ++ crlf_bytes)))))

-- the fields of a reply with blocks, by whether its path leads to a terminal
abbrev pub if_found : Bool → List NamedValue
if_found found = if found then immutable ∷ [] else []

abbrev pub data_fields : Bool → List ℕ → List ℕ → List NamedValue → List NamedValue
data_fields found kind path rest =
    content_type kind ∷ attachment ∷ no_sniffing ∷ (if_found found ++ ipfs_path path ∷ rest)

-- 200 with a raw block of this size; whether the connection closes behind it
abbrev pub raw_fields : List ℕ → ℕ → Bool → List NamedValue
raw_fields path size closes = data_fields true raw_type path (content_length size ∷ if_closing closes)

abbrev pub raw_head : QueryParts → ℕ → Bool → List ℕ
raw_head q size closes = head_text statuses.Ok (raw_fields (asked_path q) size closes)

-- a CAR to a request of this minor version: 200 where the path leads to a terminal, and 404 where it leads nowhere, which
-- the CAR shows (this project's own extension)
abbrev pub car_status : Bool → Status
car_status found = if found then statuses.Ok else statuses.NotFound

abbrev pub car_fields : Bool → Bool → List ℕ → ℕ → Bool → List NamedValue
car_fields found dups path minor closes =
    data_fields found (car_with_dups dups) path (if_chunked minor ++ if_closing closes)

abbrev pub car_head : Bool → QueryParts → ℕ → Bool → List ℕ
car_head found q minor closes =
    head_text (car_status found) (car_fields found q.dups (asked_path q) minor closes)

-- all other replies: a text, which is the word of the refusal and a line feed
abbrev pub text_of : Refusal → List ℕ
text_of refusal = word_of refusal ++ line_feed ∷ []

abbrev pub text_type : List ℕ
text_type = codes "text/plain; charset=utf-8"

abbrev pub text_fields : Refusal → Bool → List NamedValue
text_fields refusal closes =
    content_type text_type ∷ no_sniffing ∷ (if_method (status_of refusal) ++ content_length (length (text_of refusal)) ∷ if_closing closes)

abbrev pub refusal_head : Refusal → Bool → List ℕ
refusal_head refusal closes = head_text (status_of refusal) (text_fields refusal closes)
