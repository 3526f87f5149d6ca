-- Where a text begins, all blocksizes of its data are to come.
use Rattle.std.specs.Prelude.{ℕ, List, []}
use Rattle.std.proofs.Common.{refl, sym, arith}
use Rattle.tg_unixfs.specs.declared.Unix.{Unix}
use Rattle.tg_unixfs.specs.Unix.{UnixText}
use Rattle.tg_unixfs.specs.Places.{IsBetween}

pub start_sizes : (unix : Unix) (text : List ℕ) → UnixText unix text → IsBetween text 0 [] unix.sizes
start_sizes unix text h = record {
  front = [];
  rest = h.fields;
  fields = record { message = h.message; inside = omega arith; spelled = refl };
  sizes_behind = refl;
  sizes_ahead = sym h.parts.sizes;
}
