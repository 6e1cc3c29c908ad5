use Rattle.std.proofs.Common.{refl, subst}
use Rattle.std.proofs.KnownBytes.{Keeps-refl}
use Rattle.lhash.specs.Serving.{IsHelped}
use Rattle.lhash.proofs.Serving.{served_as}
use Rattle.lhash.proofs.program.serve.Goals as goal

pub returns-in-Commands : goal.returns-in-Commands
returns-in-Commands g c =
    served_as c.args.notation c.args.is_terminal c.in-Commands.is _ _ _ _ _ c.answer_commands.ensures

pub returns-in-Build : goal.returns-in-Build
returns-in-Build g c =
    served_as c.args.notation c.args.is_terminal c.in-Build.is _ _ _ _ _
    (rw c.version_of.ensures at c.answer_build.ensures)

pub returns-in-Load : goal.returns-in-Load
returns-in-Load g c =
    served_as c.args.notation c.args.is_terminal c.in-Load.is _ _ _ _ _
    (rw c.version_of-in-Load.ensures at c.answer_load.ensures)

pub returns-in-Check : goal.returns-in-Check
returns-in-Check g c = served_as c.args.notation c.args.is_terminal c.in-Check.is _ _ _ _ _ c.answer_check.ensures

pub returns-in-Draw : goal.returns-in-Draw
returns-in-Draw g c = served_as c.args.notation c.args.is_terminal c.in-Draw.is _ _ _ _ _ c.answer_draw.ensures

pub returns-in-Drive : goal.returns-in-Drive
returns-in-Drive g c = served_as c.args.notation c.args.is_terminal c.in-Drive.is _ _ _ _ _ c.drive.ensures

pub returns-in-Refused : goal.returns-in-Refused
returns-in-Refused g c =
    served_as c.args.notation c.args.is_terminal c.in-Refused.is _ _ _ _ _ (refl, Keeps-refl _, Keeps-refl _)

pub returns-in-Help : goal.returns-in-Help
returns-in-Help g c = served_as c.args.notation c.args.is_terminal c.in-Help.is _ _ _ _ _ (
  subst
      (λ text.
      IsHelped text c.write_help.result (g.W.Write.contents c.args.writer.now)
      (g.W.Write.contents c.write_help.new.writer)) c.as_str.ensures.value c.write_help.ensures,
  Keeps-refl _,
)

pub returns-in-Dump : goal.returns-in-Dump
returns-in-Dump g c = served_as c.args.notation c.args.is_terminal c.in-Dump.is _ _ _ _ _ c.dump.ensures

pub returns-in-MaxBelowInitial : goal.returns-in-MaxBelowInitial
returns-in-MaxBelowInitial g c =
    served_as c.args.notation c.args.is_terminal c.in-MaxBelowInitial.is _ _ _ _ _ (search Keeps-refl)

pub returns-in-Replay : goal.returns-in-Replay
returns-in-Replay g c = served_as c.args.notation c.args.is_terminal c.in-Replay.is _ _ _ _ _ c.answer_replay.ensures

pub returns-in-Steps : goal.returns-in-Steps
returns-in-Steps g c = served_as c.args.notation c.args.is_terminal c.in-Steps.is _ _ _ _ _ search

pub returns-in-Serve : goal.returns-in-Serve
returns-in-Serve g c = served_as c.args.notation c.args.is_terminal c.in-Serve.is _ _ _ _ _ c.answer_serve.ensures

pub returns-in-ServeImage : goal.returns-in-ServeImage
returns-in-ServeImage g c =
    served_as c.args.notation c.args.is_terminal c.in-ServeImage.is _ _ _ _ _ c.answer_serve_from.ensures

pub returns-in-SettingsBesideImage : goal.returns-in-SettingsBesideImage
returns-in-SettingsBesideImage g c =
    served_as c.args.notation c.args.is_terminal c.in-SettingsBesideImage.is _ _ _ _ _ (search Keeps-refl)

pub returns-in-SnapshotsOfShards : goal.returns-in-SnapshotsOfShards
returns-in-SnapshotsOfShards g c =
    served_as c.args.notation c.args.is_terminal c.in-SnapshotsOfShards.is _ _ _ _ _ (search Keeps-refl)

pub returns-in-Query : goal.returns-in-Query
returns-in-Query g c = served_as c.args.notation c.args.is_terminal c.in-Query.is _ _ _ _ _ c.answer_query.ensures

pub returns-in-Apply : goal.returns-in-Apply
returns-in-Apply g c =
    served_as c.args.notation c.args.is_terminal c.in-Apply.is _ _ _ _ _
    (rw c.version_of-in-Apply.ensures at c.answer_apply.ensures)

pub returns-in-Get : goal.returns-in-Get
returns-in-Get g c =
    served_as c.args.notation c.args.is_terminal c.in-Get.is _ _ _ _ _ (rw c.as_slice.ensures at c.answer_get.ensures)
