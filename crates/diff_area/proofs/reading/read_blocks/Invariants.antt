use Rattle.std.proofs.Common.{◌≡◌, ◌*◌, length, vec_len}
use Rattle.block_data.specs.declared.block_buf.TheConstants.{BLOCK}
use Rattle.diff_area.specs.Loading.{IsReadAlone, AreRead}
use Rattle.diff_area.proofs.reading.read_blocks.Given as goal

abbrev pub invariant-loop-k : goal.invariant-loop-k
invariant-loop-k g l =
    let d = g.D.Device in
    record {
      read : AreRead (d.told l.fn.device) l.first l.k l.bytes.items;
      len : length l.bytes.items ≡ BLOCK * l.k;
      same : d.count l.device ≡ d.count l.fn.device;
      alone : IsReadAlone d l.fn.device l.device;
      page : vec_len l.page ≡ BLOCK;
    }
