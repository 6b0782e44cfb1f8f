-- Extents as the code keeps them.
use Rattle.spectro_report.specs.Reports as reports
use Rattle.spectro_report.specs.declared.reported.Extent.{Extent}

abbrev pub extent_in : Extent → reports.Extent
extent_in extent = record { states = extent.states; transitions = extent.transitions }
