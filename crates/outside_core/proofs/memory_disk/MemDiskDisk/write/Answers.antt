use Rattle.std.proofs.Common.{ap, sym, ◌∙◌, bytes_eq}
use Rattle.indexmap.specs.IndexMap.{insert_entry}
use Rattle.outside_core.specs.MemoryDisk.{HeldFiles}
use Rattle.outside_core.proofs.EntriesLemmas.{replaced, when_ok}
use Rattle.outside_core.proofs.memory_disk.MemDiskDisk.write.Goals as goal

-- the copy was put in
pub returns-then-is_ok-clause-ok : goal.returns-then-is_ok-clause-ok
returns-then-is_ok-clause-ok c =
    replaced c.args.name.now c.args.bytes.now c.args.self.now.entries c.put_copy.new.self.entries
    (when_ok c.put_copy.result (sym c.is_ok.ensures.value ∙ c.if-is_ok.true) c.put_copy.ensures.ok
    ∙ ap (λ (d : HeldFiles). insert_entry bytes_eq d.entries c.args.name.now c.args.bytes.now) c.self.view_is)
