-- The length, and the bytes after it.
use Rattle.std.proofs.Common.{arith}
use Rattle.bitio.specs.PutsLaws.{blob_puts}
use Rattle.bitio.proofs.write_blob.Goals as goal

pub returns : goal.returns
returns c = let a = c.args in
    blob_puts a.m.now a.out.now c.write-p.new.out c.write_bytes.new.out a.at a.n c.min-a.result c.min-k.result a.pos c.write-p.result c.write_bytes.result
    c.requires.short (omega arith) (omega arith) (omega arith) (omega arith) (omega arith) (omega arith) c.write-p.ensures c.write_bytes.ensures
