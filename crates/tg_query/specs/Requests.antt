-- The request that a client prints for a query (RFC 9112, section 3; Trustless Gateway specification), and its law.
use Rattle.httparse.specs.Ascii.{crlf_bytes}
use Rattle.std.specs.List.{flat_map}
use Rattle.std.specs.Prelude.{All, Bool, List, None, Option, Some, [], codes, decimal, if◌then◌else◌, length, ℕ, ◌++◌}
use Rattle.std.specs.Prelude.{◌∷◌, ◌≡◌, ◌≤◌}
use Rattle.std.specs.Str.Parse.{IsNumeral, digits_value}
use Rattle.tg_bytes.specs.Ascii.{slash}
use Rattle.tg_cid.specs.Computed.{cid_text}
use Rattle.tg_model.specs.Queries.{QueryParts, SpanParts}
use Rattle.tg_model.specs.Texts.{escaped}
use Rattle.tg_model.specs.declared.queries.Form.{Form}
use Rattle.tg_model.specs.declared.queries.Form.TheVariants as forms
use Rattle.tg_model.specs.declared.queries.Scope.{Scope}
use Rattle.tg_model.specs.declared.queries.SpanFrom.{SpanFrom}
use Rattle.tg_model.specs.declared.queries.SpanFrom.TheVariants.{Last, Start}
use Rattle.tg_query.specs.Accepts.{car_type, raw_type}
use Rattle.tg_query.specs.Targets.{scope_word}

-- HOST:PORT as the program takes it: 3 to 255 visible bytes of ASCII, and behind the last colon the digits of a port
pub record IsAddr (addr : List ℕ) : Type 0 where
  pub few : length addr ≤ 255
  pub enough : 3 ≤ length addr
  pub visible : All (λ b. (33 ≤ b) × (b ≤ 126)) addr
  pub host : List ℕ
  pub port : List ℕ
  pub whole : addr ≡ host ++ 58 ∷ port
  pub digits : IsNumeral 10 port
  pub at_most_five : length port ≤ 5
  pub not_zero : 1 ≤ digits_value 10 port
  pub fits : digits_value 10 port ≤ 65535

-- each segment escaped, behind a slash
abbrev pub path_text : List (List ℕ) → List ℕ
path_text path = flat_map (λ name. slash ∷ escaped name) path

abbrev pub from_text : SpanFrom → List ℕ
from_text (Start start) = decimal start
from_text (Last count) = 45 ∷ decimal count

abbrev pub to_text : Option ℕ → List ℕ
to_text None = 42 ∷ []
to_text (Some last) = decimal last

abbrev pub span_text : SpanParts → List ℕ
span_text span = from_text span.from ++ 58 ∷ to_text span.to

abbrev pub span_param : Option SpanParts → List ℕ
span_param None = []
span_param (Some span) = codes "&entity-bytes=" ++ span_text span

-- the query of the target, and the value of `Accept`
abbrev pub car_params : Scope → Option SpanParts → List ℕ
car_params scope span = codes "format=car&dag-scope=" ++ (scope_word scope ++ span_param span)

abbrev pub params_text : Form → QueryParts → List ℕ
params_text forms.Raw q = codes "format=raw"
params_text forms.Car q = car_params q.scope q.span

abbrev pub dups_word : Bool → List ℕ
dups_word dups = if dups then codes "y" else codes "n"

abbrev pub car_with_dups : Bool → List ℕ
car_with_dups dups = car_type ++ (codes "; version=1; order=dfs; dups=" ++ dups_word dups)

abbrev pub accept_text : Form → QueryParts → List ℕ
accept_text forms.Raw q = raw_type
accept_text forms.Car q = car_with_dups q.dups

abbrev pub target_text : QueryParts → List ℕ
target_text q = codes "/ipfs/" ++ (cid_text q.root ++ (path_text q.path ++ 63 ∷ params_text q.form q))

unfoldable pub request_text : QueryParts → List ℕ → List ℕ
request_text q addr =
    codes "GET " ++ (target_text q ++ (codes " HTTP/1.1" ++ (crlf_bytes
    ++ (codes "Host: " ++ (addr ++ (crlf_bytes
    ++ (codes "Accept: " ++ (accept_text q.form q ++ (crlf_bytes
    ++ (codes "Connection: close" ++ (crlf_bytes ++ crlf_bytes)))))))))))
