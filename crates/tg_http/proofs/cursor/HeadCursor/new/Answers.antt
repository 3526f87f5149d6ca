use Rattle.std.proofs.Common.{[], refl, arith}
use Rattle.std.proofs.lemmas.List.Elements.{All-nil}
use Rattle.std.proofs.Common.{◌≢◌, ℕ}
use Rattle.tg_http.specs.HeadText.{IsFullLine}
use Rattle.tg_http.proofs.cursor.HeadCursor.new.Goals as goal

pub returns : goal.returns
returns c bytes = record {
  lines_are = record { blank = []; lines = []; lines_are = All-nil IsFullLine; count_is = refl; whole = refl };
  no_feed = All-nil (λ (b : ℕ). b ≢ 10);
  in_order = omega arith;
  within = omega arith;
  limit = omega arith;
}
