use Rattle.lh_subcommands.proofs.Inspecting.{unmigrated, migrated, migrate_begun}
use Rattle.lh_subcommands.proofs.images.answer_migrate.Goals as goal

pub returns-in-Err : goal.returns-in-Err
returns-in-Err g c = unmigrated c.in-Err.fault _ _ _ c.unreadable.ensures c.in-Err.ensures.exact

pub returns-in-Ok-write_image : goal.returns-in-Ok-write_image
returns-in-Ok-write_image g c = migrated c.in-Ok.listing _ _ _ c.in-Ok.ensures.exact c.in-Ok-write_image.ensures.written

pub returns : goal.returns
returns g c =
    migrate_begun c.census_counts_pages.ensures c.in-Ok.listing c.in-Err-write_image.fault _ _ _ _ c.unwritten.ensures
    c.in-Ok.ensures.exact c.in-Ok.ensures.image c.in-Err-write_image.ensures.not_old
    c.in-Err-write_image.ensures.written
