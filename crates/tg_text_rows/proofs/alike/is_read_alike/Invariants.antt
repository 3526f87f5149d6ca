use Rattle.std.proofs.Common.{ℕ, ◌≤◌, take}
use Rattle.tg_http.specs.Sought.{IsSought}
use Rattle.tg_text_rows.proofs.alike.is_read_alike.Given as goal

-- both cursors were sought in each longer front of the text
abbrev pub invariant-loop-size : goal.invariant-loop-size
invariant-loop-size l = record {
  request : (n : ℕ) → l.size ≤ n → IsSought l.request (take n l.text);
  reply : (n : ℕ) → l.size ≤ n → IsSought l.reply (take n l.text);
}
