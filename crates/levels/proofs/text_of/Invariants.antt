-- `text_of` writes level after level; the chunks that the iterator has left are those that are not written yet.
use mathlib.Core.Path.{◌≡◌}
use mathlib.Core.List.{◌++◌}
use Prim.Native.Nat.{◌^◌}
use Rattle.std.specs.Slice.Iter.{chunks_exact_rest, chunks_exact_size}
use Rattle.defs.specs.Place.{Symbols}
use Rattle.defs.specs.Levels.{levels_of, levels_text}
use Rattle.levels.proofs.text_of.Given as goal

abbrev pub invariant-loop-chunk : goal.invariant-loop-chunk
invariant-loop-chunk l = record {
  size : chunks_exact_size l.chunk-iterator ≡ l.scale.r;
  symbols : Symbols l.scale.field.m (chunks_exact_rest l.chunk-iterator);
  is : l.text ++ levels_text (levels_of (2 ^ l.scale.field.m) l.scale.r (chunks_exact_rest l.chunk-iterator)) ≡ levels_text (levels_of (2 ^ l.scale.field.m) l.scale.r l.row);
}
