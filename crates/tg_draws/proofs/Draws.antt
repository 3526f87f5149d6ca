-- One byte, and one file, more at the end of what was drawn.
use Rattle.std.proofs.Common.{◌≡◌, ◌+◌, ◌%◌, ℕ, List, [], ◌∷◌, ◌++◌, arith, ap, length, length-append, subst, sym, ◌∙◌}
use Rattle.tg_draws.specs.Draws.{AreFilesDrawn, BytesDrawn, Draws, FilesDrawn, byte, draw_of, file, next_state, no_byte, no_file}

byte_more : (state : ℕ) (bytes : List ℕ) (behind : ℕ) → BytesDrawn state bytes behind
    → BytesDrawn state (bytes ++ draw_of behind % 256 ∷ []) (next_state behind)
byte_more state bytes behind (no_byte _) = byte _ _ _ (no_byte _)
byte_more state bytes behind (byte _ more _ next) = byte _ _ _ (byte_more (next_state state) more behind next)

file_more : (state : ℕ) (files : List (List ℕ)) (between : ℕ) (bytes : List ℕ) (behind : ℕ) → FilesDrawn state files between
    → Draws (next_state between) (draw_of between % 65536) bytes behind → FilesDrawn state (files ++ bytes ∷ []) behind
file_more state files between bytes behind (no_file _) drawn = file _ _ _ _ _ drawn (no_file _)
file_more state files between bytes behind (file _ first middle more _ before next) drawn =
    file _ _ _ _ _ before (file_more middle more between bytes behind next drawn)

-- at first none are drawn
pub no_bytes : (state : ℕ) (bytes : List ℕ) → bytes ≡ [] → Draws state 0 bytes state
no_bytes state bytes none = record {
  count_is = ap length none;
  drawn = subst (λ (bs : List ℕ). BytesDrawn state bs state) (sym none) (no_byte state);
}

pub no_files : (state : ℕ) (files : List (List ℕ)) → files ≡ [] → AreFilesDrawn state 0 files state
no_files state files none = record {
  count_is = ap length none;
  drawn = subst (λ (fs : List (List ℕ)). FilesDrawn state fs state) (sym none) (no_file state);
}

-- and with one more they are one more
pub one_byte_more : (state count : ℕ) (bytes : List ℕ) (between number behind : ℕ) (more : List ℕ) → Draws state count bytes between
    → number ≡ draw_of between → behind ≡ next_state between → more ≡ bytes ++ number % 256 ∷ [] → Draws state (count + 1) more behind
one_byte_more state count bytes between number behind more so_far n b m = record {
  count_is = let e : length more ≡ length bytes + 1 = ap length m ∙ length-append bytes (number % 256 ∷ []) in omega (arith, e, so_far.count_is);
  drawn =
      let longer = bytes ++ draw_of between % 256 ∷ [] in
      let same : longer ≡ more = ap (λ (d : ℕ). bytes ++ d % 256 ∷ []) (sym n) ∙ sym m in
      let drawn : BytesDrawn state longer behind = subst (λ (s : ℕ). BytesDrawn state longer s) (sym b) (byte_more state bytes between so_far.drawn) in
      subst (λ (bs : List ℕ). BytesDrawn state bs behind) same drawn;
}

pub one_file_more : (state count : ℕ) (files : List (List ℕ)) (between size start : ℕ) (bytes : List ℕ) (behind : ℕ) (more : List (List ℕ))
    → AreFilesDrawn state count files between → size ≡ draw_of between % 65536 → start ≡ next_state between → Draws start size bytes behind
    → more ≡ files ++ bytes ∷ [] → AreFilesDrawn state (count + 1) more behind
one_file_more state count files between size start bytes behind more so_far n s drawn m = record {
  count_is = let e : length more ≡ length files + 1 = ap length m ∙ length-append files (bytes ∷ []) in omega (arith, e, so_far.count_is);
  drawn =
      let begun : Draws (next_state between) size bytes behind = subst (λ (from : ℕ). Draws from size bytes behind) s drawn in
      let here : Draws (next_state between) (draw_of between % 65536) bytes behind = subst (λ (k : ℕ). Draws (next_state between) k bytes behind) n begun in
      subst (λ (fs : List (List ℕ)). FilesDrawn state fs behind) (sym m) (file_more state files between bytes behind so_far.drawn here);
}
