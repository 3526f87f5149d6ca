-- Lines of a head, one after another.
use Rattle.std.proofs.Common.{Bool, List, [], ap, append-nil, append_assoc, false, length, refl, sym, true, ℕ, ◌++◌, ◌∙◌, ◌∷◌, ◌≡◌}
use Rattle.std.proofs.lemmas.Grind.{flat_map-append}
use Rattle.httparse.specs.Ascii.{crlf_bytes}
use Rattle.tg_bytes.specs.Lists.{behind_parts}
use Rattle.tg_model.specs.Queries.{QueryParts}
use Rattle.tg_query.specs.Accepts.{raw_type}
use Rattle.tg_query.specs.Requests.{car_with_dups}
use Rattle.tg_reply.specs.Heads.{NamedValue, asked_path, attachment, car_fields, car_head, car_status, content_length, content_type, data_fields}
use Rattle.tg_reply.specs.Heads.{field_line, head_text, if_chunked, if_closing, if_found, if_method, ipfs_path, no_sniffing, raw_fields, raw_head}
use Rattle.tg_reply.specs.Heads.{refusal_head, text_of, text_type}
use Rattle.tg_reply.specs.Refusals.{status_of}
use Rattle.tg_reply.specs.declared.refusal.Refusal.{Refusal}
use Rattle.tg_reply.specs.declared.status.Status.{Status}
use Rattle.tg_reply.specs.declared.status.Status.TheVariants as statuses
use Rattle.tg_reply_writing.specs.Lines.{field_lines, status_line}

-- the lines of fields behind those of others
pub more_lines : (a b c : List ℕ) (xs ys : List NamedValue) → b ≡ a ++ field_lines xs → c ≡ b ++ field_lines ys
    → c ≡ a ++ field_lines (xs ++ ys)
more_lines a b c xs ys p q =
    q ∙ behind_parts a (field_lines xs) (field_lines ys) b p
    ∙ ap (λ (l : List ℕ). a ++ l) (sym (flat_map-append field_line xs ys))

-- one field is its line
pub one_line : (a b : List ℕ) (field : NamedValue) → b ≡ a ++ field_line field → b ≡ a ++ field_lines (field ∷ [])
one_line a b field p = p ∙ ap (λ (l : List ℕ). a ++ l) (sym (append-nil (field_line field)))

-- what follows the path among the fields of a reply with blocks
pub data_then : (found : Bool) (kind path : List ℕ) (rest : List NamedValue) → data_fields found kind path [] ++ rest ≡ data_fields found kind path rest
data_then true kind path rest = refl
data_then false kind path rest = refl

-- a status line, the lines of fields and an empty line
line_then : (status : Status) (fields : List NamedValue) → status_line status ++ (field_lines fields ++ crlf_bytes) ≡ head_text status fields
line_then statuses.Ok fields = refl
line_then statuses.BadRequest fields = refl
line_then statuses.NotFound fields = refl
line_then statuses.MethodNotAllowed fields = refl
line_then statuses.NotAcceptable fields = refl
line_then statuses.FieldsTooLarge fields = refl
line_then statuses.ServerError fields = refl

-- a head of its status line, these fields, and the last of them behind which it ends
pub whole_head : (status : Status) (a b c : List ℕ) (xs ys fields : List NamedValue) → a ≡ status_line status → b ≡ a ++ field_lines xs
    → c ≡ b ++ (field_lines ys ++ crlf_bytes) → xs ++ ys ≡ fields → c ≡ head_text status fields
whole_head status a b c xs ys fields p q r e =
    r ∙ behind_parts a (field_lines xs) (field_lines ys ++ crlf_bytes) b q
    ∙ ap (λ (l : List ℕ). l ++ (field_lines xs ++ (field_lines ys ++ crlf_bytes))) p
    ∙ ap (λ (l : List ℕ). status_line status ++ l) (sym (append_assoc (field_lines xs) (field_lines ys) crlf_bytes))
    ∙ ap (λ (l : List ℕ). status_line status ++ (l ++ crlf_bytes)) (sym (flat_map-append field_line xs ys))
    ∙ ap (λ (fields : List NamedValue). status_line status ++ (field_lines fields ++ crlf_bytes)) e
    ∙ line_then status fields

-- ---- the fields of heads, one after another

pub data_put : (found : Bool) (kind path a b c d e f : List ℕ) → b ≡ a ++ field_line (content_type kind) → c ≡ b ++ field_line attachment
    → d ≡ c ++ field_line no_sniffing → e ≡ d ++ field_lines (if_found found) → f ≡ e ++ field_line (ipfs_path path)
    → f ≡ a ++ field_lines (data_fields found kind path [])
data_put found kind path a b c d e f p q r s t =
    let last = more_lines d e f (if_found found) (ipfs_path path ∷ []) s (one_line e f (ipfs_path path) t) in
    let third = more_lines c d f (no_sniffing ∷ []) (if_found found ++ ipfs_path path ∷ []) (one_line c d no_sniffing r) last in
    let second = more_lines b c f (attachment ∷ []) (no_sniffing ∷ (if_found found ++ ipfs_path path ∷ [])) (one_line b c attachment q) third in
    more_lines a b f (content_type kind ∷ []) (attachment ∷ no_sniffing ∷ (if_found found ++ ipfs_path path ∷ [])) (one_line a b (content_type kind) p) second

pub text_put : (a b c : List ℕ) → b ≡ a ++ field_line (content_type text_type) → c ≡ b ++ field_line no_sniffing
    → c ≡ a ++ field_lines (content_type text_type ∷ no_sniffing ∷ [])
text_put a b c p q =
    more_lines a b c (content_type text_type ∷ []) (no_sniffing ∷ []) (one_line a b (content_type text_type) p) (one_line b c no_sniffing q)

-- ---- whole heads

-- of a reply with blocks
data_head : (status : Status) (found : Bool) (kind path : List ℕ) (xs ys : List NamedValue) (a b c d : List ℕ) → a ≡ status_line status
    → b ≡ a ++ field_lines (data_fields found kind path []) → c ≡ b ++ field_lines xs → d ≡ c ++ (field_lines ys ++ crlf_bytes)
    → d ≡ head_text status (data_fields found kind path (xs ++ ys))
data_head status found kind path xs ys a b c d p q r s =
    let fields = data_fields found kind path [] in
    whole_head status a c d (fields ++ xs) ys (data_fields found kind path (xs ++ ys)) p (more_lines a b c fields xs q r) s
    (append_assoc fields xs ys ∙ data_then found kind path (xs ++ ys))

pub raw_put : (q : QueryParts) (size : ℕ) (closes : Bool) (kind path a b c d : List ℕ) → a ≡ status_line statuses.Ok
    → b ≡ a ++ field_lines (data_fields true kind path []) → c ≡ b ++ field_line (content_length size)
    → d ≡ c ++ (field_lines (if_closing closes) ++ crlf_bytes) → kind ≡ raw_type → path ≡ asked_path q → d ≡ raw_head q size closes
raw_put q size closes kind path a b c d p r s t x y =
    data_head statuses.Ok true kind path (content_length size ∷ []) (if_closing closes) a b c d p r (one_line b c (content_length size) s) t
    ∙ ap (λ (l : List ℕ). head_text statuses.Ok (data_fields true l path (content_length size ∷ if_closing closes))) x
    ∙ ap (λ (l : List ℕ). head_text statuses.Ok (raw_fields l size closes)) y

pub car_put : (found : Bool) (q : QueryParts) (minor : ℕ) (closes : Bool) (status : Status) (kind path a b c d : List ℕ) → a ≡ status_line status
    → b ≡ a ++ field_lines (data_fields found kind path []) → c ≡ b ++ field_lines (if_chunked minor)
    → d ≡ c ++ (field_lines (if_closing closes) ++ crlf_bytes) → status ≡ car_status found → kind ≡ car_with_dups q.dups
    → path ≡ asked_path q → d ≡ car_head found q minor closes
car_put found q minor closes status kind path a b c d p r s t w x y =
    data_head status found kind path (if_chunked minor) (if_closing closes) a b c d p r s t
    ∙ ap (λ (status : Status). head_text status (data_fields found kind path (if_chunked minor ++ if_closing closes))) w
    ∙ ap (λ (l : List ℕ). head_text (car_status found) (data_fields found l path (if_chunked minor ++ if_closing closes))) x
    ∙ ap (λ (l : List ℕ). head_text (car_status found) (car_fields found q.dups l minor closes)) y

-- of a text
pub refusal_put : (refusal : Refusal) (closes : Bool) (status : Status) (size : ℕ) (a b c d e : List ℕ) → a ≡ status_line status
    → b ≡ a ++ field_lines (content_type text_type ∷ no_sniffing ∷ []) → c ≡ b ++ field_lines (if_method status)
    → d ≡ c ++ field_line (content_length size) → e ≡ d ++ (field_lines (if_closing closes) ++ crlf_bytes) → status ≡ status_of refusal
    → size ≡ length (text_of refusal) → e ≡ refusal_head refusal closes
refusal_put refusal closes status size a b c d e p q r s t x y =
    let one : List NamedValue = content_length size ∷ [] in
    let both = more_lines b c d (if_method status) one r (one_line c d (content_length size) s) in
    let all = more_lines a b d (content_type text_type ∷ no_sniffing ∷ []) (if_method status ++ one) q both in
    let front : List NamedValue → List NamedValue = λ (rest : List NamedValue). content_type text_type ∷ no_sniffing ∷ rest in
    let fields : Status → ℕ → List NamedValue = λ (status : Status) (size : ℕ). front (if_method status ++ content_length size ∷ if_closing closes) in
    whole_head status a d e (front (if_method status ++ one)) (if_closing closes) (fields status size) p all t
    (ap front (append_assoc (if_method status) one (if_closing closes)))
    ∙ ap (λ (status : Status). head_text status (fields status size)) x
    ∙ ap (λ (size : ℕ). head_text (status_of refusal) (fields (status_of refusal) size)) y
