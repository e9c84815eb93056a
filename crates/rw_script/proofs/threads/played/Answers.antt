use Rattle.std.proofs.Common.{◌<◌, ◌∙◌, ℕ, All, refl, subst}
use Rattle.rw_desk.specs.Closing.{AreAllHere}
use Rattle.rw_journal.specs.Run.{IsRun}
use Rattle.rw_world.specs.Lists.{Each}
use Rattle.rw_world.specs.Specified.{WorldEntry}
use Rattle.rw_script.specs.Threads.{IsFollowed}
use Rattle.rw_script.proofs.FollowLaws.{all_played}
use Rattle.rw_script.proofs.threads.played.Goals as goal

pub returns : goal.returns
returns c =
    let s = c.args.script.now in
    let run = c.in_ok-run.run' in
    let ps = c.args.passes.items in
    let here : AreAllHere s.actors ps = subst (λ n. AreAllHere n ps) c.requires.actors c.in_ok-run.ensures.here in
    let followed : Each (IsFollowed s.steps) ps = rw (← c.steps.ensures.steps, ← c.deref.ensures.value) c.in_ok-follow_all.ensures in
    let known = subst (λ n. All (λ (e : WorldEntry ℕ). e.actor < n) c.entries.result.now) c.actors.ensures.actors (c.if-not-are_of.ensures refl) in
    record {
      run_is = subst (IsRun run.specs) c.entries.ensures.entries c.entries.ensures.run;
      specs = c.in_ok-run.ensures.specs ∙ c.requires.specs;
      played = all_played s.specs s.actors s.steps run.entries ps here c.in_ok-run.ensures.agree followed
          (subst (All (λ (e : WorldEntry ℕ). e.actor < s.actors)) c.entries.ensures.entries known) c.steps.ensures.script.steps;
    }
