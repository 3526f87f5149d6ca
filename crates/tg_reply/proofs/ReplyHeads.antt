-- The heads of refusals, of raw blocks and of CARs read back.
use Rattle.std.proofs.Common.{◌≡◌, ℕ, ◌+◌, ◌^◌, ◌<◌, ◌≤◌, Bool, true, false, All, List, [], ◌∷◌, ◌++◌, Some, codes, length, refl, ap, arith}
use Rattle.httparse.specs.Ascii.{crlf_bytes}
use Rattle.httparse.specs.Grammar.{AllPass, is_token_byte, is_value_byte, trim_ows}
use Rattle.std.specs.List.{flat_map, list_all}
use Rattle.std.specs.Prelude.{decimal}
use Rattle.std.proofs.lemmas.List.{length-append}
use Rattle.std.proofs.lemmas.List.Elements.{All-append, All-cons, All-nil}
use Rattle.std.proofs.lemmas.List.Sums.{AllPass-from_list_all}
use Rattle.tg_bytes.specs.DigitLaws.{decimal_digits}
use Rattle.tg_http.specs.GrammarLines.{token}
use Rattle.tg_http.specs.Fields.{values}
use Rattle.tg_http.specs.Framing.{HasFraming}
use Rattle.tg_http.specs.declared.framing.Framing.TheVariants as framings
use Rattle.tg_query.specs.declared.fault.QueryFault.{QueryFault}
use Rattle.tg_query.specs.declared.fault.QueryFault.TheVariants as faults
use Rattle.tg_query.specs.Accepts.{raw_type}
use Rattle.tg_query.specs.Requests.{car_with_dups}
use Rattle.tg_reply.specs.Heads.{NamedValue, allow, attachment, car_fields, car_status, chunked_coding, close, content_length, content_type, data_fields, digits_of, field_line, head_text, if_closing, if_found, if_method, immutable, ipfs_path, no_sniffing, phrase_of, raw_fields, text_of, text_type}
use Rattle.tg_reply.specs.Laws.{CarReadsBack, RawReadsBack, ReadsBack, RefusalsReadBack, number_of}
use Rattle.tg_reply.specs.Refusals.{query_word, status_of, word_of}
use Rattle.tg_reply.specs.declared.refusal.Refusal.{Refusal}
use Rattle.tg_reply.specs.declared.refusal.Refusal.TheVariants as refusals
use Rattle.tg_reply.specs.declared.status.Status.{Status}
use Rattle.tg_reply.specs.declared.status.Status.TheVariants as statuses
use Rattle.tg_reply.proofs.HeadLines.{Good, digits_pass}
use Rattle.tg_reply.proofs.ReadBack.{digits_value_bytes, length_value, reads_back, told_fields}

-- ---- the fields

plain : (name value : List ℕ) → 0 < length name → list_all is_token_byte name ≡ true → AllPass is_value_byte value → Good (name, value)
plain name value some tests pass = record { name = token name some tests; value = pass }

fixed : (name value : List ℕ) → 0 < length name → list_all is_token_byte name ≡ true → list_all is_value_byte value ≡ true → Good (name, value)
fixed name value some tests pass = plain name value some tests (AllPass-from_list_all is_value_byte value pass)

type_good : (kind : List ℕ) → AllPass is_value_byte kind → Good (content_type kind)
unfolding is_token_byte
type_good kind pass = plain (codes "Content-Type") kind (omega arith) refl pass

attachment_good : Good attachment
unfolding is_token_byte
attachment_good = fixed (codes "Content-Disposition") (codes "attachment") (omega arith) refl refl

no_sniffing_good : Good no_sniffing
unfolding is_token_byte
no_sniffing_good = fixed (codes "X-Content-Type-Options") (codes "nosniff") (omega arith) refl refl

immutable_good : Good immutable
unfolding is_token_byte
immutable_good = fixed (codes "Cache-Control") (codes "public, max-age=29030400, immutable") (omega arith) refl refl

path_good : (path : List ℕ) → AllPass is_value_byte path → Good (ipfs_path path)
unfolding is_token_byte
path_good path pass = plain (codes "X-Ipfs-Path") path (omega arith) refl pass

length_good : (n : ℕ) → n < 2 ^ 63 → Good (content_length n)
unfolding is_token_byte
length_good n h = plain (codes "Content-Length") (decimal n) (omega arith) refl (digits_value_bytes (decimal n) (decimal_digits n h).digits.1)

chunked_good : Good chunked_coding
unfolding is_token_byte
chunked_good = fixed (codes "Transfer-Encoding") (codes "chunked") (omega arith) refl refl

allow_good : Good allow
unfolding is_token_byte
allow_good = fixed (codes "Allow") (codes "GET, HEAD") (omega arith) refl refl

close_good : Good close
unfolding is_token_byte
close_good = fixed (codes "Connection") (codes "close") (omega arith) refl refl

closing_good : (closes : Bool) → All Good (if_closing closes)
closing_good true = All-cons Good close [] close_good (All-nil Good)
closing_good false = All-nil Good

-- ---- text replies

-- the fields of a text of so many bytes, with these between
abbrev text_with : List NamedValue → ℕ → Bool → List NamedValue
text_with between n closes = content_type text_type ∷ no_sniffing ∷ (between ++ content_length n ∷ if_closing closes)

-- with the methods that are allowed, or without
abbrev between : Bool → List NamedValue
between true = allow ∷ []
between false = []

between_good : (named : Bool) → All Good (between named)
between_good true = All-cons Good allow [] allow_good (All-nil Good)
between_good false = All-nil Good

text_good : (named : Bool) (n : ℕ) (closes : Bool) → n < 2 ^ 63 → All Good (text_with (between named) n closes)
text_good named n closes h =
    All-cons Good (content_type text_type) (no_sniffing ∷ (between named ++ content_length n ∷ if_closing closes)) (type_good text_type (AllPass-from_list_all is_value_byte text_type refl))
    (All-cons Good no_sniffing (between named ++ content_length n ∷ if_closing closes) no_sniffing_good
    (All-append Good (between named) (content_length n ∷ if_closing closes) (between_good named)
    (All-cons Good (content_length n) (if_closing closes) (length_good n h) (closing_good closes))))

phrase_small : (status : Status) → length (phrase_of status) ≤ 31
phrase_small statuses.Ok = omega arith
phrase_small statuses.BadRequest = omega arith
phrase_small statuses.NotFound = omega arith
phrase_small statuses.MethodNotAllowed = omega arith
phrase_small statuses.NotAcceptable = omega arith
phrase_small statuses.FieldsTooLarge = omega arith
phrase_small statuses.ServerError = omega arith

head_length : (status : Status) (fields : List NamedValue) → length (head_text status fields) ≤ 48 + length (flat_map field_line fields)
head_length status fields =
    let lines = flat_map field_line fields in
    omega (
      arith,
      (digits_pass status).0,
      phrase_small status,
      length-append (digits_of status) (32 ∷ (phrase_of status ++ (crlf_bytes ++ (lines ++ crlf_bytes)))),
      length-append (phrase_of status) (crlf_bytes ++ (lines ++ crlf_bytes)),
      length-append lines crlf_bytes,
    )

text_short : (named : Bool) (n : ℕ) (closes : Bool) → n < 2 ^ 63 → length (flat_map field_line (text_with (between named) n closes)) ≤ 1000
text_short named n closes h =
    let few = (decimal_digits n h).few in
    by_fields named closes few
  where
    line : (rest : List ℕ) → length ((decimal n ++ crlf_bytes) ++ rest) ≡ length (decimal n) + (2 + length rest)
    line rest = omega (arith, length-append (decimal n ++ crlf_bytes) rest, length-append (decimal n) crlf_bytes)

    by_fields : (named closes : Bool) → length (decimal n) ≤ 19 → length (flat_map field_line (text_with (between named) n closes)) ≤ 1000
    by_fields true true few = omega (arith, few, line (flat_map field_line (close ∷ [])))
    by_fields true false few = omega (arith, few, line [])
    by_fields false true few = omega (arith, few, line (flat_map field_line (close ∷ [])))
    by_fields false false few = omega (arith, few, line [])

text_kind : trim_ows (32 ∷ text_type) ≡ text_type
unfolding trim_ows
text_kind = refl

text_framing : (named : Bool) (n : ℕ) (closes : Bool) → n < 2 ^ 63 → HasFraming (told_fields (text_with (between named) n closes)) (framings.Length n)
text_framing true n true h = (refl, trim_ows (32 ∷ decimal n), refl, length_value n h, h)
text_framing true n false h = (refl, trim_ows (32 ∷ decimal n), refl, length_value n h, h)
text_framing false n true h = (refl, trim_ows (32 ∷ decimal n), refl, length_value n h, h)
text_framing false n false h = (refl, trim_ows (32 ∷ decimal n), refl, length_value n h, h)

text_coding : (named : Bool) (n : ℕ) (closes : Bool) → values (codes "content-encoding") (told_fields (text_with (between named) n closes)) ≡ []
text_coding true n true = refl
text_coding true n false = refl
text_coding false n true = refl
text_coding false n false = refl

few_closing : (closes : Bool) → length (if_closing closes) ≤ 1
few_closing true = omega arith
few_closing false = omega arith

few_between : (named : Bool) → length (between named) ≤ 1
few_between true = omega arith
few_between false = omega arith

text_back : (named : Bool) (status : Status) (n : ℕ) (closes : Bool) → n < 2 ^ 63
    → ReadsBack (head_text status (text_with (between named) n closes)) (number_of status) text_type (framings.Length n)
text_back named status n closes h =
    let fields = text_with (between named) n closes in
    reads_back status fields text_type (framings.Length n) (text_good named n closes h)
    (omega (arith, few_closing closes, few_between named, length-append (between named) (content_length n ∷ if_closing closes)))
    (omega (arith, head_length status fields, text_short named n closes h)) (ap Some text_kind) (text_coding named n closes) (text_framing named n closes h)

any_text_back : (status : Status) (n : ℕ) (closes : Bool) → n < 2 ^ 63
    → ReadsBack (head_text status (text_with (if_method status) n closes)) (number_of status) text_type (framings.Length n)
any_text_back statuses.Ok = text_back false statuses.Ok
any_text_back statuses.BadRequest = text_back false statuses.BadRequest
any_text_back statuses.NotFound = text_back false statuses.NotFound
any_text_back statuses.MethodNotAllowed = text_back true statuses.MethodNotAllowed
any_text_back statuses.NotAcceptable = text_back false statuses.NotAcceptable
any_text_back statuses.FieldsTooLarge = text_back false statuses.FieldsTooLarge
any_text_back statuses.ServerError = text_back false statuses.ServerError

query_word_short : (fault : QueryFault) → length (query_word fault) ≤ 20
query_word_short faults.BadPath = omega arith
query_word_short (faults.BadCid fault) = omega arith
query_word_short faults.NoFormat = omega arith
query_word_short faults.BadFormat = omega arith
query_word_short faults.BadScope = omega arith
query_word_short faults.BadRange = omega arith
query_word_short faults.Doubled = omega arith
query_word_short faults.BadParam = omega arith
query_word_short faults.RawPath = omega arith
query_word_short faults.OutOfMemory = omega arith

word_short : (refusal : Refusal) → length (word_of refusal) ≤ 20
word_short refusals.HeadLimit = omega arith
word_short refusals.BadHead = omega arith
word_short refusals.BadFraming = omega arith
word_short refusals.BadMethod = omega arith
word_short (refusals.Query fault) = query_word_short fault
word_short refusals.NoRoot = omega arith
word_short refusals.Store = omega arith
word_short refusals.Gone = omega arith
word_short refusals.BadBlock = omega arith

pub refusals_back : RefusalsReadBack
refusals_back refusal closes =
    any_text_back (status_of refusal) (length (text_of refusal)) closes
    (omega (arith, word_short refusal, length-append (word_of refusal) (10 ∷ [])))

-- ---- replies with blocks

raw_kind : trim_ows (32 ∷ raw_type) ≡ raw_type
unfolding trim_ows
raw_kind = refl

car_kind : (dups : Bool) → trim_ows (32 ∷ car_with_dups dups) ≡ car_with_dups dups
unfolding trim_ows
car_kind true = refl
car_kind false = refl

car_passes : (dups : Bool) → list_all is_value_byte (car_with_dups dups) ≡ true
car_passes true = refl
car_passes false = refl

data_good : (found : Bool) (kind path : List ℕ) (rest : List NamedValue) → AllPass is_value_byte kind → AllPass is_value_byte path → All Good rest → All Good (data_fields found kind path rest)
data_good found kind path rest pass shown good =
    All-cons Good (content_type kind) (attachment ∷ no_sniffing ∷ (if_found found ++ ipfs_path path ∷ rest)) (type_good kind pass)
    (All-cons Good attachment (no_sniffing ∷ (if_found found ++ ipfs_path path ∷ rest)) attachment_good
    (All-cons Good no_sniffing (if_found found ++ ipfs_path path ∷ rest) no_sniffing_good (found_good found)))
  where
    behind : All Good (ipfs_path path ∷ rest)
    behind = All-cons Good (ipfs_path path) rest (path_good path shown) good

    found_good : (found : Bool) → All Good (if_found found ++ ipfs_path path ∷ rest)
    found_good true = All-cons Good immutable (ipfs_path path ∷ rest) immutable_good behind
    found_good false = behind

raw_framing : (path : List ℕ) (size : ℕ) (closes : Bool) → size < 2 ^ 63 → HasFraming (told_fields (raw_fields path size closes)) (framings.Length size)
raw_framing path size true h = (refl, trim_ows (32 ∷ decimal size), refl, length_value size h, h)
raw_framing path size false h = (refl, trim_ows (32 ∷ decimal size), refl, length_value size h, h)

raw_coding : (path : List ℕ) (size : ℕ) (closes : Bool) → values (codes "content-encoding") (told_fields (raw_fields path size closes)) ≡ []
raw_coding path size true = refl
raw_coding path size false = refl

pub raw_back : RawReadsBack
raw_back path size closes pass small fits =
    let rest = content_length size ∷ if_closing closes in
    reads_back statuses.Ok (raw_fields path size closes) raw_type (framings.Length size)
    (data_good true raw_type path rest (AllPass-from_list_all is_value_byte raw_type refl) pass
    (All-cons Good (content_length size) (if_closing closes) (length_good size small) (closing_good closes)))
    (omega (arith, few_closing closes)) fits (ap Some raw_kind) (raw_coding path size closes) (raw_framing path size closes small)

chunked_framing : (found dups : Bool) (path : List ℕ) (closes : Bool) → HasFraming (told_fields (car_fields found dups path 1 closes)) framings.Chunked
unfolding trim_ows
chunked_framing true dups path true = (refl, codes "chunked", refl, refl)
chunked_framing true dups path false = (refl, codes "chunked", refl, refl)
chunked_framing false dups path true = (refl, codes "chunked", refl, refl)
chunked_framing false dups path false = (refl, codes "chunked", refl, refl)

plain_framing : (found dups : Bool) (path : List ℕ) (closes : Bool) → HasFraming (told_fields (car_fields found dups path 0 closes)) framings.UntilClose
plain_framing true dups path true = (refl, refl)
plain_framing true dups path false = (refl, refl)
plain_framing false dups path true = (refl, refl)
plain_framing false dups path false = (refl, refl)

chunked_coding_none : (found dups : Bool) (path : List ℕ) (closes : Bool) → values (codes "content-encoding") (told_fields (car_fields found dups path 1 closes)) ≡ []
chunked_coding_none true dups path true = refl
chunked_coding_none true dups path false = refl
chunked_coding_none false dups path true = refl
chunked_coding_none false dups path false = refl

plain_coding_none : (found dups : Bool) (path : List ℕ) (closes : Bool) → values (codes "content-encoding") (told_fields (car_fields found dups path 0 closes)) ≡ []
plain_coding_none true dups path true = refl
plain_coding_none true dups path false = refl
plain_coding_none false dups path true = refl
plain_coding_none false dups path false = refl

few_found : (found : Bool) → length (if_found found) ≤ 1
few_found true = omega arith
few_found false = omega arith

car_few : (found dups : Bool) (path : List ℕ) (rest : List NamedValue) → length rest ≤ 2 → length (data_fields found (car_with_dups dups) path rest) ≤ 64
car_few found dups path rest few = omega (arith, few, few_found found, length-append (if_found found) (ipfs_path path ∷ rest))

pub car_back : CarReadsBack
car_back found dups path closes pass =
    let kind = AllPass-from_list_all is_value_byte (car_with_dups dups) (car_passes dups) in (
      λ fits. reads_back (car_status found) (car_fields found dups path 1 closes) (car_with_dups dups) framings.Chunked
          (data_good found (car_with_dups dups) path (chunked_coding ∷ if_closing closes) kind pass (All-cons Good chunked_coding (if_closing closes) chunked_good (closing_good closes)))
          (car_few found dups path (chunked_coding ∷ if_closing closes) (omega (arith, few_closing closes))) fits (ap Some (car_kind dups)) (chunked_coding_none found dups path closes) (chunked_framing found dups path closes),
      λ fits. reads_back (car_status found) (car_fields found dups path 0 closes) (car_with_dups dups) framings.UntilClose
          (data_good found (car_with_dups dups) path (if_closing closes) kind pass (closing_good closes))
          (car_few found dups path (if_closing closes) (omega (arith, few_closing closes))) fits (ap Some (car_kind dups)) (plain_coding_none found dups path closes) (plain_framing found dups path closes),
    )
