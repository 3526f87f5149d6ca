-- A body in chunks is a body of the grammar.
use Rattle.std.proofs.Common.{◌≡◌, ◌≢◌, ℕ, zero, suc, ◌^◌, ◌<◌, ◌≤◌, All, List, [], ◌∷◌, ◌++◌, None, inl, length, map, refl, sym, ap, ap₂, subst, ◌∙◌, arith, append_assoc}
use Rattle.httparse.specs.Ascii.{crlf_bytes}
use Rattle.httparse.specs.Grammar.{AllPass, IsField, crlf, is_ows, print_chunk_line}
use Rattle.std.specs.Char.{digit_value, is_ascii_hexdigit}
use Rattle.std.specs.Int.Digits.{AllBelowBase, digits_of, number_from_digits}
use Rattle.std.specs.List.{flat_map}
use Rattle.std.specs.Prelude.{IsTrue, ◌==◌}
use Rattle.std.proofs.lemmas.Bool.{cond-false, ne_eqb}
use Rattle.std.specs.Str.Parse.{digits_value}
use Rattle.std.proofs.lemmas.Int.Digits.{all_below_base_digits_of, digits_value_is, length-digits_of-le, length-digits_of_step, number_digits_of}
use Rattle.std.proofs.lemmas.List.{append-nil, length-append, length-map}
use Rattle.std.proofs.lemmas.List.Elements.{All-cons, All-head, All-nil, All-tail}
use Rattle.tg_body.specs.Bodies.{ChunkText, ChunksText, SizeLine, TrailerText}
use Rattle.tg_bytes.specs.Lists.{joined}
use Rattle.tg_http.specs.Chunks.{chunk_line, hex_digit, hex_text}
use Rattle.tg_http.specs.HeadText.{IsFullLine}
use Rattle.tg_reply.specs.Bodies.{CutGoesOn, IsPart, WholeInChunks}
use Rattle.tg_reply.specs.CarBytes.{chunk_bytes}

-- ---- the line of a size

hex_value : (d : ℕ) → d < 16 → digit_value (hex_digit d) ≡ d
hex_value d h = grind (arith, h)

hex_passes : (d : ℕ) → d < 16 → IsTrue (is_ascii_hexdigit (hex_digit d))
hex_passes d h = grind (arith, h)

hex_values : (digits : List ℕ) → AllBelowBase 16 digits → map digit_value (map hex_digit digits) ≡ digits
hex_values [] all = refl
hex_values (d ∷ digits) all = ap₂ (λ (x : ℕ) (xs : List ℕ). x ∷ xs) (hex_value d all.0) (hex_values digits all.1)

hexes_pass : (digits : List ℕ) → AllBelowBase 16 digits → AllPass is_ascii_hexdigit (map hex_digit digits)
hexes_pass [] all = All-nil (λ (b : ℕ). IsTrue (is_ascii_hexdigit b))
hexes_pass (d ∷ digits) all =
    All-cons (λ (b : ℕ). IsTrue (is_ascii_hexdigit b)) (hex_digit d) (map hex_digit digits) (hex_passes d all.0) (hexes_pass digits all.1)

-- digits of a size, of which there is one at least
record SizeDigits (size : ℕ) (digits : List ℕ) : Type 0 where
  some : 0 < length digits
  few : length digits ≤ 16
  pass : AllPass is_ascii_hexdigit digits
  value : size ≡ digits_value 16 digits

zero_digits : SizeDigits 0 (48 ∷ [])
zero_digits = record {
  some = omega arith;
  few = omega arith;
  pass = All-cons (λ (b : ℕ). IsTrue (is_ascii_hexdigit b)) 48 [] refl (All-nil (λ (b : ℕ). IsTrue (is_ascii_hexdigit b)));
  value = refl;
}

size_digits : (size : ℕ) → 0 < size → size < 2 ^ 63 → SizeDigits size (map hex_digit (digits_of 16 size))
size_digits size some small =
    let digits = digits_of 16 size in
    let below = all_below_base_digits_of 16 size (omega arith) in
    record {
      some = omega (arith, length-map digits hex_digit, length-digits_of_step 16 size (omega arith) some);
      few = omega (arith, length-map digits hex_digit, length-digits_of-le 16 16 size (omega arith) (omega arith));
      pass = hexes_pass digits below;
      value =
          sym (number_digits_of 16 size (omega arith)) ∙ ap (number_from_digits 16) (sym (hex_values digits below))
          ∙ sym (digits_value_is 16 (map hex_digit digits));
    }

hex_digits : (size : ℕ) → size < 2 ^ 63 → SizeDigits size (hex_text size)
hex_digits zero small = zero_digits
hex_digits (suc n) small =
    subst (SizeDigits (suc n)) (sym (cond-false (suc n == 0) (48 ∷ []) (map hex_digit (digits_of 16 (suc n))) (ne_eqb (suc n) 0 (λ e. omega (arith, e)))))
    (size_digits (suc n) (omega arith) small)

line_tree : (digits : List ℕ) → digits ++ crlf_bytes ≡ print_chunk_line (record { digits = digits; pad = []; extension = None }) ++ []
unfolding print_chunk_line
line_tree digits = simp (append_assoc, append-nil)

size_line : (size : ℕ) → size < 2 ^ 63 → SizeLine size (chunk_line size)
size_line size small =
    let told = hex_digits size small in
    record {
      tree = record { digits = hex_text size; pad = []; extension = None };
      reads = (
        record { digits = (told.some, told.few, told.pass); pad = All-nil (λ (b : ℕ). IsTrue (is_ows b)); extension = tt },
        line_tree (hex_text size),
      );
      size_is = told.value;
      small = small;
      fits = omega (arith, told.few, length-append (hex_text size) crlf_bytes);
    }

-- ---- chunks

chunk_text : (chunk : List ℕ) → IsPart chunk → ChunkText chunk (chunk_bytes chunk)
chunk_text chunk part = record { line = chunk_line (length chunk); line_is = size_line (length chunk) part.1; some = part.0; whole = refl }

chunks_text : (parts : List (List ℕ)) → All IsPart parts → ChunksText parts (flat_map chunk_bytes parts)
chunks_text [] all = refl
chunks_text (part ∷ parts) all = (
  chunk_bytes part,
  flat_map chunk_bytes parts,
  refl,
  chunk_text part (All-head IsPart part parts all),
  chunks_text parts (All-tail IsPart part parts all),
)

no_trailer : TrailerText crlf_bytes
no_trailer = record {
  lines = [];
  empty = crlf;
  lines_are = All-nil IsFullLine;
  up_to_empty = refl;
  fields = [];
  last = crlf;
  reads = (All-nil IsField, refl);
  few = omega arith;
  fits = omega arith;
}

pub whole_chunks : WholeInChunks
whole_chunks parts all = record {
  chunks = parts;
  front = flat_map chunk_bytes parts;
  line = chunk_line 0;
  trailer = crlf_bytes;
  chunks_are = chunks_text parts all;
  line_is = size_line 0 (omega arith);
  trailer_is = no_trailer;
  whole = refl;
  body_is = refl;
}

pub cut_chunks : CutGoesOn
cut_chunks parts all = record {
  chunks = parts;
  front = flat_map chunk_bytes parts;
  part = [];
  rest = [];
  chunks_are = chunks_text parts all;
  inside = inl (refl, record { no_feed = All-nil (λ (b : ℕ). b ≢ 10); few = omega arith });
  whole = refl;
  body_is = sym (append-nil (joined parts));
}
