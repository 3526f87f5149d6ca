-- A head text is sought on from where a cursor stands.
use Rattle.std.proofs.Common.{◌≡◌, ◌≢◌, ℕ, ◌+◌, ◌-◌, ◌<◌, ◌≤◌, List, [], ◌∷◌, ◌++◌, length, take, drop, sym, ap, ◌∙◌, subst, arith, append_assoc}
use Rattle.std.proofs.Math.Seq.{take-add, take-length}
use Rattle.std.proofs.lemmas.List.{drop-take, drop_all, drop-append-le, length-append, length-take, length-take-le, take-append-le, take-append-drop}
use Rattle.std.proofs.lemmas.List.Elements.{All-nil, All-append}
use Rattle.tg_http.specs.declared.cursor.HeadCursor.{HeadCursor}
use Rattle.tg_http.specs.HeadText.{HasNoFeed, IsLine, IsEmptyLine, IsFullLine, HeadText}
use Rattle.tg_http.specs.Sought.{AreFirstLines, IsSought, SoughtStays}
use Rattle.tg_http.proofs.FirstLines.{blank_more, ended, few, full_more, unended}

pub sought_stays : SoughtStays
sought_stays cursor bytes more s =
    let begun : cursor.line ≤ length bytes = omega (arith, s.in_order, s.within) in
    record {
      lines_are = subst (λ (l : List ℕ). AreFirstLines l cursor.lines) (sym (take-append-le cursor.line bytes more begun)) s.lines_are;
      no_feed = subst (λ (l : List ℕ). HasNoFeed (drop cursor.line l)) (sym (take-append-le cursor.seen bytes more s.within)) s.no_feed;
      in_order = s.in_order;
      within = omega (arith, s.within, length-append bytes more);
      limit = s.limit;
    }

-- one line more, which ends so many bytes behind what was looked at
module _ (cursor : HeadCursor) (bytes : List ℕ) (size : ℕ) (s : IsSought cursor bytes) (fits : cursor.seen + size ≤ length bytes) where
  abbrev pub here : List ℕ
  here = take (cursor.seen + size - cursor.line) (drop cursor.line bytes)

  number : cursor.line + (cursor.seen + size - cursor.line) ≡ cursor.seen + size
  number = omega (arith, s.in_order)

  pub front_is : take (cursor.seen + size) bytes ≡ take cursor.line bytes ++ here
  front_is = ap (λ n. take n bytes) (sym number) ∙ take-add cursor.line (cursor.seen + size - cursor.line) bytes

  pub line_ends : IsLine (take size (drop cursor.seen bytes)) → IsLine here
  line_ends l =
      let looked = drop cursor.line (take cursor.seen bytes) in
      let split : here ≡ looked ++ take size (drop cursor.seen bytes) =
      sym (drop-take cursor.line (cursor.seen + size - cursor.line) bytes)
      ∙ ap (λ n. drop cursor.line (take n bytes)) number
      ∙ ap (λ (b : List ℕ). drop cursor.line b) (take-add cursor.seen size bytes)
      ∙ drop-append-le cursor.line (take cursor.seen bytes) (take size (drop cursor.seen bytes))
      (omega (arith, s.in_order, length-take-le cursor.seen bytes s.within)) in
      record {
        front = looked ++ l.front;
        inside = All-append (λ (b : ℕ). b ≢ 10) looked l.front s.no_feed l.inside;
        whole = split ∙ ap (λ (b : List ℕ). looked ++ b) l.whole ∙ sym (append_assoc looked l.front (10 ∷ []));
      }

  -- the cursor behind it
  behind_line : (lines : ℕ) → length bytes ≤ 16384 → AreFirstLines (take cursor.line bytes ++ here) lines
      → IsSought (record { line = cursor.seen + size; seen = cursor.seen + size; lines = lines }) bytes
  behind_line lines short are = record {
    lines_are = subst (λ (l : List ℕ). AreFirstLines l lines) (sym front_is) are;
    no_feed = subst HasNoFeed (sym (drop_all (cursor.seen + size) (take (cursor.seen + size) bytes) (omega (arith, length-take-le (cursor.seen + size) bytes fits)))) (All-nil (λ (b : ℕ). b ≢ 10));
    in_order = omega arith;
    within = fits;
    limit = omega (arith, short, fits);
  }

  pub behind_full : length bytes ≤ 16384 → IsFullLine here
      → IsSought (record { line = cursor.seen + size; seen = cursor.seen + size; lines = cursor.lines + 1 }) bytes
  behind_full short full =
      behind_line (cursor.lines + 1) short (full_more (take cursor.line bytes) here cursor.lines s.lines_are full)

  pub behind_empty : length bytes ≤ 16384 → cursor.lines ≡ 0 → IsEmptyLine here
      → IsSought (record { line = cursor.seen + size; seen = cursor.seen + size; lines = cursor.lines }) bytes
  behind_empty short none empty =
      behind_line cursor.lines short
      (subst (λ (n : ℕ). AreFirstLines (take cursor.line bytes ++ here) n) (sym none)
      (blank_more (take cursor.line bytes) here (subst (λ (n : ℕ). AreFirstLines (take cursor.line bytes) n) none s.lines_are) empty))

  -- the head text that it ends
  pub text_here : 0 < cursor.lines → IsEmptyLine here → HeadText (take (cursor.seen + size) bytes) (cursor.lines - 1)
  text_here some empty =
      subst (λ (b : List ℕ). HeadText b (cursor.lines - 1)) (sym front_is) (ended (take cursor.line bytes) here cursor.lines s.lines_are some empty)

-- no line feed behind what was looked at
module _ (cursor : HeadCursor) (bytes : List ℕ) (s : IsSought cursor bytes) (none : HasNoFeed (drop cursor.seen bytes)) where
  pub unfinished : HasNoFeed (drop cursor.line bytes)
  unfinished =
      subst HasNoFeed
      (sym (drop-append-le cursor.line (take cursor.seen bytes) (drop cursor.seen bytes) (omega (arith, s.in_order, length-take-le cursor.seen bytes s.within)))
      ∙ ap (λ (b : List ℕ). drop cursor.line b) (take-append-drop cursor.seen bytes))
      (All-append (λ (b : ℕ). b ≢ 10) (drop cursor.line (take cursor.seen bytes)) (drop cursor.seen bytes) s.no_feed none)

  pub seen_whole : length bytes ≤ 16384 → IsSought (record { line = cursor.line; seen = length bytes; lines = cursor.lines }) bytes
  seen_whole short = record {
    lines_are = s.lines_are;
    no_feed = subst (λ (b : List ℕ). HasNoFeed (drop cursor.line b)) (sym (take-length bytes)) unfinished;
    in_order = omega (arith, s.in_order, s.within);
    within = omega arith;
    limit = short;
  }

  pub no_text : (text rest : List ℕ) (count : ℕ) → HeadText text count → bytes ≡ text ++ rest → ⊥
  no_text text rest count t whole =
      unended (take cursor.line bytes) (drop cursor.line bytes) text rest cursor.lines count s.lines_are unfinished t
      (sym whole ∙ sym (take-append-drop cursor.line bytes))

-- lines are no more than bytes
pub lines_few : (cursor : HeadCursor) (bytes : List ℕ) → IsSought cursor bytes → cursor.lines ≤ cursor.line
lines_few cursor bytes s =
    omega (arith, few (take cursor.line bytes) cursor.lines s.lines_are, length-take cursor.line bytes)
