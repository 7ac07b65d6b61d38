use Rattle.knife_core.proofs.EndLemmas.{any_file}
use Rattle.knife_core.proofs.files.sent_in.Goals as goal

pub returns-in-Err-Failed-clause-sent : goal.returns-in-Err-Failed-clause-sent
returns-in-Err-Failed-clause-sent g c =
    let p = any_file (g.D.Disk.files c.args.disk.now) c.args.file.now in
    record { held = p.0; is_file = p.1; sent = tt }

pub returns-in-Err-NoMemory-clause-sent : goal.returns-in-Err-NoMemory-clause-sent
returns-in-Err-NoMemory-clause-sent g c =
    let p = any_file (g.D.Disk.files c.args.disk.now) c.args.file.now in
    record { held = p.0; is_file = p.1; sent = tt }
