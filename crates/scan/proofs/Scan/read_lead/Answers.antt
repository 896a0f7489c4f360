-- `scan::Scan::read_lead` meets its contract: after j readings the words follow the separate sums.
use Rattle.std.proofs.Common.{◌∙◌, ap, length}
use Rattle.std.proofs.lemmas.List.{length-replicate}
use Rattle.scan.proofs.Laws.Following.{follows_start, follows_more}
use Rattle.scan.proofs.Scan.read_lead.Goals as goal

pub loop-j-init : goal.loop-j-init
loop-j-init c =
    let scan = c.args.self.now in
    follows_start scan.masks scan.masks.sound scan.used _ _ _ (ap length c.requires ∙ length-replicate scan.used scan.masks.top) c.requires

pub loop-j-preserved : goal.loop-j-preserved
loop-j-preserved c = let k = c.args.self.now.masks in follows_more k k.sound _ _ _ _ _ _ c.loop-j.invariant c.read_one.ensures
