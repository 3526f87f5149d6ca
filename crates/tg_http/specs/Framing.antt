-- How a body is framed (RFC 9112, section 6.3), as narrowed by the trustless gateway's client.
use Rattle.std.specs.Prelude.{◌≡◌, ℕ, ◌^◌, ◌<◌, ◌⊎◌, List, [], ◌∷◌, codes, IsTrue}
use Rattle.std.specs.Str.{str_eq_ignore_ascii_case}
use Rattle.tg_http.specs.declared.framing.Framing.{Framing}
use Rattle.tg_http.specs.declared.framing.Framing.TheVariants.{Length, Chunked, UntilClose, Broken}
use Rattle.tg_bytes.specs.Digits.{IsDigits}
use Rattle.tg_http.specs.Fields.{values}

abbrev pub codings : List (List ℕ × List ℕ) → List (List ℕ)
codings fields = values (codes "transfer-encoding") fields

abbrev pub lengths : List (List ℕ × List ℕ) → List (List ℕ)
lengths fields = values (codes "content-length") fields

-- One `Content-Length` of 1 to 19 digits below 2 ^ 63; one `Transfer-Encoding`, which is `chunked`; or neither field.
-- All else has none of these framings.
abbrev pub HasFraming : List (List ℕ × List ℕ) → Framing → Type 0
HasFraming fields (Length number) =
    (codings fields ≡ []) × (value : List ℕ) × (lengths fields ≡ value ∷ []) × IsDigits value number × (number < 2 ^ 63)
HasFraming fields Chunked =
    (lengths fields ≡ []) × (value : List ℕ) × (codings fields ≡ value ∷ []) × IsTrue (str_eq_ignore_ascii_case value (codes "chunked"))
HasFraming fields UntilClose = (codings fields ≡ []) × (lengths fields ≡ [])
HasFraming fields Broken = ⊥

-- the framing of a reply, which is broken where it has none
abbrev pub IsFramingOf : List (List ℕ × List ℕ) → Framing → Type 0
IsFramingOf fields framing =
    HasFraming fields framing ⊎ ((framing ≡ Broken) × ((other : Framing) → HasFraming fields other → ⊥))

-- a request has no body where it has no `Transfer-Encoding`, and no `Content-Length` but one of 1 to 19 digits of value
-- 0
pub record HasNoBody (fields : List (List ℕ × List ℕ)) : Type 0 where
  pub no_coding : codings fields ≡ []
  pub no_length : (lengths fields ≡ []) ⊎ ((value : List ℕ) × (lengths fields ≡ value ∷ []) × IsDigits value 0)
