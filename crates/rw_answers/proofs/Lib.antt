pub mod PeakTexts
