-- The request at the front of bytes, found and read by computing (RFC 9112, sections 2 to 6).
use Rattle.httparse.specs.Grammar.{Field, LineEnd, RequestHead as RequestTree, crlf, is_token, is_uri_byte}
use Rattle.httparse.specs.Grammar.{is_value_byte, lf, print_blank, print_end, print_request}
use Rattle.httparse.specs.Spans.{name_and_value}
use Rattle.std.specs.Char.{is_digit}
use Rattle.std.specs.List.{after_first, before_first, list_all, list_any}
use Rattle.std.specs.Option.{option_map}
use Rattle.std.specs.Prelude.{Bool, List, None, Option, Some, [], bytes_eq, codes, drop, false, if◌then◌else◌, length}
use Rattle.std.specs.Prelude.{map, nat_le, nat_lt, not, slice_index, true, ℕ, ◌&&◌, ◌++◌, ◌-◌, ◌<◌, ◌==◌, ◌∷◌, ◌||◌}
use Rattle.std.specs.Str.{is_utf8}
use Rattle.std.specs.Str.Parse.{digits_value}
use Rattle.tg_bytes.specs.Lists.{joined}
use Rattle.tg_http.specs.Fields.{closes, values}
use Rattle.tg_http.specs.Framing.{codings, lengths}
use Rattle.tg_http.specs.Heads.{HasWholeText, IsNoRequest, IsWaiting, PassesLimit}
use Rattle.tg_http.specs.declared.request.RequestHead.{RequestHead}
use Rattle.tg_reply.specs.Streams.{BeginsRequest}

-- ---- lines

-- a byte at the front of the first of the lines
abbrev pub with_byte : ℕ → List (List ℕ) → List (List ℕ)
with_byte b [] = []
with_byte b (line ∷ lines) = (b ∷ line) ∷ lines

-- the lines that are whole, each with its line feed
abbrev pub lines_of : List ℕ → List (List ℕ)
lines_of [] = []
lines_of (b ∷ bytes) = if b == 10 then (10 ∷ []) ∷ lines_of bytes else with_byte b (lines_of bytes)

-- the end that an empty line is
abbrev pub empty_end : List ℕ → Option LineEnd
empty_end line =
    if bytes_eq line (print_end lf) then Some lf else (if bytes_eq line (print_end crlf) then Some crlf else None)

-- ---- the lines of a head text

-- the lines up to an empty one, and the end that this is
pub record SectionLines : Type 0 where
  pub fields : List (List ℕ)
  pub last : LineEnd

-- the same behind empty lines and a start line
pub record HeadLines : Type 0 where
  pub blank : List LineEnd
  pub start : List ℕ
  pub section : SectionLines

-- one line more in front of them
abbrev pub add_field : List ℕ → SectionLines → SectionLines
add_field line section = record { fields = line ∷ section.fields; last = section.last }

-- by whether the line is empty
abbrev pub section_from : List ℕ → Option LineEnd → Option SectionLines → Option SectionLines
section_from line (Some last) more = Some (record { fields = []; last = last })
section_from line None more = option_map (add_field line) more

abbrev pub section_lines : List (List ℕ) → Option SectionLines
section_lines [] = None
section_lines (line ∷ lines) = section_from line (empty_end line) (section_lines lines)

abbrev pub add_blank : LineEnd → HeadLines → HeadLines
add_blank end head = record { blank = end ∷ head.blank; start = head.start; section = head.section }

-- empty lines go before the start line, which is the first that isn't empty
abbrev pub head_from : List ℕ → Option LineEnd → Option SectionLines → Option HeadLines → Option HeadLines
head_from line (Some end) section head = option_map (add_blank end) head
head_from line None section head = option_map (λ found. record { blank = []; start = line; section = found }) section

abbrev pub head_lines : List (List ℕ) → Option HeadLines
head_lines [] = None
head_lines (line ∷ lines) = head_from line (empty_end line) (section_lines lines) (head_lines lines)

-- the head text that they are
abbrev pub text_of_lines : HeadLines → List ℕ
text_of_lines head =
    print_blank head.blank ++ (head.start ++ (joined head.section.fields ++ print_end head.section.last))

-- ---- the request that a head text is: what is read of its lines, where that is of the grammar and prints as the text

-- a line ends in CR LF where it has a CR, and else in LF
abbrev pub end_of_line : List ℕ → LineEnd
end_of_line line = if list_any (λ b. b == 13) line then crlf else lf

-- the bytes behind the first colon are the value, up to the line's end
abbrev pub field_of_line : List ℕ → Field
field_of_line line = record {
  name = before_first (λ b. b == 58) line;
  raw = before_first (λ b. b == 13 || b == 10) (after_first (λ b. b == 58) line);
  end = end_of_line line;
}

-- the digit behind `HTTP/1.`
abbrev pub minor_of : List ℕ → ℕ
minor_of version = slice_index version 7 - 48

-- a start line is cut at its first two spaces
abbrev pub request_of_lines : HeadLines → RequestTree
request_of_lines head =
    let is_space = λ (b : ℕ). b == 32 in
    let behind_method = after_first is_space head.start in
    record {
      blank = head.blank;
      method = before_first is_space head.start;
      target = before_first is_space behind_method;
      minor = minor_of (after_first is_space behind_method);
      line_end = end_of_line head.start;
      fields = map field_of_line head.section.fields;
      last = head.section.last;
    }

-- its parts are of their classes
abbrev pub is_field : Field → Bool
is_field field = is_token field.name && list_all is_value_byte field.raw

abbrev pub is_request_head : RequestTree → Bool
is_request_head head =
    is_token head.method && (nat_lt 0 (length head.target) && (list_all is_uri_byte head.target
    && (is_utf8 head.target && (nat_le head.minor 1 && list_all is_field head.fields))))

-- and it prints as the text
abbrev pub is_request : RequestTree → List ℕ → Bool
is_request head text = is_request_head head && bytes_eq text (print_request head)

-- ---- what is told of it

-- one to 19 digits of value 0
abbrev pub is_zero_text : List ℕ → Bool
is_zero_text value =
    nat_lt 0 (length value) && (list_all (λ b. is_digit b 10) value && (nat_le (length value) 19 && 0 == digits_value 10 value))

abbrev pub has_any : List (List ℕ) → Bool
has_any [] = false
has_any (value ∷ more) = true

abbrev pub states_length : List (List ℕ) → Bool
states_length [] = false
states_length (value ∷ []) = not (is_zero_text value)
states_length (value ∷ other ∷ more) = true

-- a body is announced by any `Transfer-Encoding`, and by a `Content-Length` other than 0
abbrev pub announces_body : List (List ℕ × List ℕ) → Bool
announces_body fields = has_any (codings fields) || states_length (lengths fields)

abbrev pub told_of : ℕ → RequestTree → RequestHead
told_of used tree =
    let fields = map name_and_value tree.fields in
    record {
      used = used;
      method = tree.method;
      target = tree.target;
      minor = tree.minor;
      accept = values (codes "accept") fields;
      close = closes fields;
      framed = announces_body fields;
    }

-- ---- the first head

-- what is at the front of bytes
pub data First : Type 0 where
  -- no head is whole yet
  waits : First
  -- no head is whole within the limit, or it has too many fields
  passes_limit : First
  -- the head text is no head
  no_head : First
  -- a request of this head, and this follows it
  begins : (head : RequestHead) (rest : List ℕ) → First

abbrev pub first_of_request : List ℕ → List ℕ → RequestTree → First
first_of_request bytes text tree =
    if is_request tree text then begins (told_of (length text) tree) (drop (length text) bytes) else no_head

abbrev pub first_of_lines : List ℕ → Option HeadLines → First
first_of_lines bytes None = if nat_lt (length bytes) 16384 then waits else passes_limit
first_of_lines bytes (Some head) =
    if nat_lt 16384 (length (text_of_lines head)) || nat_lt 64 (length head.section.fields) then passes_limit
    else first_of_request bytes (text_of_lines head) (request_of_lines head)

abbrev pub first_head : List ℕ → First
first_head bytes = first_of_lines bytes (head_lines (lines_of bytes))

-- what it says of the bytes; a head has at least one byte
abbrev pub IsFirst : List ℕ → First → Type 0
IsFirst bytes waits = IsWaiting bytes
IsFirst bytes passes_limit = PassesLimit bytes
IsFirst bytes no_head = HasWholeText IsNoRequest bytes
IsFirst bytes (begins head rest) = BeginsRequest bytes head rest × (length rest < length bytes)

abbrev pub FirstHeads : Type 0
FirstHeads = (bytes : List ℕ) → IsFirst bytes (first_head bytes)
