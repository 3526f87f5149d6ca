-- Chunk lines and trailers, whole.
use Rattle.std.proofs.Common.{◌≡◌, ◌≢◌, ℕ, ◌^◌, ◌<◌, ◌≤◌, List, [], ◌∷◌, ◌++◌, map, length, take, drop, Option, Some, None, refl, sym, ap, ◌∙◌, subst, arith, append_assoc}
use Rattle.std.specs.Prelude.{All, IsTrue}
use Rattle.std.specs.Char.{is_ascii_hexdigit}
use Rattle.std.proofs.lemmas.List.{append-nil, length-append, length-map, length-take-le, drop_all}
use Rattle.std.proofs.lemmas.List.Elements.{All-append, All-cons, All-nil, All-weaker}
use Rattle.httparse.specs.Grammar.{LineEnd, print_end, is_ows, is_extension_byte, IsExtension, print_extension, ChunkLine, IsChunkLine, print_chunk_line, ReadsChunkLine, chunk_size, NeverHasChunkLine, Field, print_section, ReadsSection}
use Rattle.httparse.specs.Spans.{IsChunkLineAt, IsSectionAt, header_bytes, name_and_value}
use Rattle.httparse.specs.declared.spans.HeaderSpan.{HeaderSpan}
use Rattle.httparse.proofs.ChunkLemmas.{chunk_line_unique}
use Rattle.tg_bytes.specs.Lists.{joined}
use Rattle.tg_http.specs.GrammarLines.{plain_by}
use Rattle.tg_http.specs.Laws.{LineLaws}
use Rattle.tg_http.specs.HeadText.{HasNoFeed, IsLine, IsFullLine}
use Rattle.tg_body.specs.Bodies.{SizeLine, TrailerText}

no_feed_hex : (b : ℕ) → IsTrue (is_ascii_hexdigit b) → b ≢ 10
no_feed_hex b t = (plain_by is_ascii_hexdigit b refl refl t).0

no_feed_ows : (b : ℕ) → IsTrue (is_ows b) → b ≢ 10
no_feed_ows b t = (plain_by is_ows b refl refl t).0

no_feed_extension : (b : ℕ) → IsTrue (is_extension_byte b) → b ≢ 10
no_feed_extension b t = (plain_by is_extension_byte b refl refl t).0

extension_feed : (e : Option (List ℕ)) → IsExtension e → HasNoFeed (print_extension e)
extension_feed None i = All-nil (λ b. b ≢ 10)
extension_feed (Some text) i =
    All-cons (λ b. b ≢ 10) 59 text (λ e. omega (arith, e)) (All-weaker (λ b. IsTrue (is_extension_byte b)) (λ b. b ≢ 10) no_feed_extension text i)

-- a chunk line of the grammar is a line
pub chunk_is_line : (l : ChunkLine) → IsChunkLine l → IsLine (print_chunk_line l)
unfolding print_chunk_line
chunk_is_line l i = record {
  front = (l.digits ++ l.pad ++ print_extension l.extension) ++ 13 ∷ [];
  inside =
      All-append (λ b. b ≢ 10) (l.digits ++ l.pad ++ print_extension l.extension) (13 ∷ [])
      (All-append (λ b. b ≢ 10) (l.digits ++ l.pad) (print_extension l.extension)
      (All-append (λ b. b ≢ 10) l.digits l.pad
      (All-weaker (λ b. IsTrue (is_ascii_hexdigit b)) (λ b. b ≢ 10) no_feed_hex l.digits i.digits.2)
      (All-weaker (λ b. IsTrue (is_ows b)) (λ b. b ≢ 10) no_feed_ows l.pad i.pad))
      (extension_feed l.extension i.extension))
      (All-cons (λ b. b ≢ 10) 13 [] (λ e. omega (arith, e)) (All-nil (λ b. b ≢ 10)));
  whole = sym (append_assoc (l.digits ++ l.pad ++ print_extension l.extension) (13 ∷ []) (10 ∷ []));
}

pub size_found : LineLaws → (line : List ℕ) (len size : ℕ) (l : ChunkLine) → IsLine line → length line ≤ 16384 → IsChunkLineAt line len size l → size < 2 ^ 63
    → SizeLine size line
size_found laws line len size l i fits at small =
    let same = laws.one_line (print_chunk_line l) line (drop len line) [] (chunk_is_line l at.reads.0) i (sym at.reads.1 ∙ sym (append-nil line)) in
    record {
      tree = l;
      reads = (at.reads.0, sym same.0 ∙ sym (append-nil (print_chunk_line l)));
      size_is = at.size_is;
      small = small;
      fits = fits;
    }

pub size_large : (line : List ℕ) (len size other : ℕ) (l : ChunkLine) → IsChunkLineAt line len size l → 2 ^ 63 ≤ size → SizeLine other line → ⊥
size_large line len size other l at large s =
    let same = chunk_line_unique line l s.tree (drop len line) [] at.reads s.reads in
    omega (arith, at.size_is, s.size_is, s.small, ap chunk_size same.0)

pub size_never : (line : List ℕ) (other : ℕ) → NeverHasChunkLine line → SizeLine other line → ⊥
size_never line other never s =
    never [] s.tree [] (subst (λ (t : List ℕ). ReadsChunkLine t s.tree []) (sym (append-nil line)) s.reads)

-- a header block that is the whole of lines up to and with the first empty one
pub trailer_found : (block : List ℕ) (lines : List (List ℕ)) (last end : LineEnd) (headers : List HeaderSpan) (len count : ℕ) (fields : List Field)
    → All IsFullLine lines → block ≡ joined lines ++ print_end end → length block ≤ 16384 → count ≤ length headers → length headers ≡ 64
    → IsSectionAt block 0 headers len count fields last → len ≡ length block → TrailerText block
trailer_found block lines last end headers len count fields full whole fits within room at all =
    let rest : drop len block ≡ [] = drop_all len block (omega (arith, all)) in
    let many : length (map name_and_value fields) ≡ count =
    sym (ap length at.fields_are) ∙ length-map (take count headers) (header_bytes block) ∙ length-take-le count headers within in
    record {
      lines = lines;
      empty = end;
      lines_are = full;
      up_to_empty = whole;
      fields = fields;
      last = last;
      reads = subst (λ (r : List ℕ). ReadsSection block fields last r) rest at.reads;
      few = omega (arith, many, length-map fields name_and_value);
      fits = fits;
    }

-- a trailer is a header block up to its end
pub trailer_length : (block : List ℕ) (t : TrailerText block) (headers : List HeaderSpan) (len count : ℕ) → IsSectionAt block 0 headers len count t.fields t.last
    → len ≡ length block
trailer_length block t headers len count at =
    omega (arith, at.len_is, ap length t.reads.1, length-append (print_section t.fields t.last) [])
